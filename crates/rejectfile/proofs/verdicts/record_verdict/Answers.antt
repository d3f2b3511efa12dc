-- `verdicts::record_verdict`: number, reject record and counts are each written by one call, whose promises are the parts of `Recorded`.
-- Assumes nothing.
use mathlib.Core.Path.{refl, ap, subst}
use Prim.Native.Nat.{ℕ, ◌<◌, ◌^◌}
use lib.ListN.{set}
use borrow.Author.Rules.{rules}
use mir.Syntax.{w64}
use mir.Val.{Fits}
use Rattle.rejectfile.proofs.verdicts.record_verdict.Goals as goal

pub returns : goal.returns
returns c =
    let h : Fits w64 c.set_of-set.result = search rules in
    record {
      fits = subst (λ (z : ℕ). z < 2 ^ 64) c.set_of-set.ensures h.fits;
      rows_is = refl;
      number_is = ap (set c.args.verdicts.now c.args.i) c.set_of-set.ensures;
      rejects_are = c.put_reject-count.ensures.0;
      rejects_low = c.put_reject-count.ensures.1;
      rejects_high = c.put_reject-count.ensures.2;
      counted = rw (← c.is_accepted-accepted.ensures, ← c.set_of-set.ensures) c.counted-tally.ensures;
    }
