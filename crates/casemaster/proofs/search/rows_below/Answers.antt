use mathlib.Core.Logic.{inr}
use mathlib.Core.Path.{◌≡◌, sym, ◌∙◌}
use Prim.Native.Nat.{ℕ, ◌+◌, ◌-◌, ◌/◌}
use native.Mathlib.Omega.{arith}
use Rattle.casemaster.proofs.search.rows_below.Goals as goal

pub loop-lo-preserved-then-is_row_below : goal.loop-lo-preserved-then-is_row_below
loop-lo-preserved-then-is_row_below c =
    let b = c.is_row_below in
    let l = c.loop-lo in
    let mid : ℕ = l.lo + (l.hi - l.lo) / 2 in
    record {
      order = omega arith;
      within = l.invariant.within;
      below = λ j h. c.requires.3 c.args.key.now j mid (omega arith) (omega (arith, l.invariant.within)) (sym b.ensures ∙ c.if-is_row_below.true);
      stops = l.invariant.stops;
    }

pub loop-lo-preserved : goal.loop-lo-preserved
loop-lo-preserved c =
    let b = c.is_row_below in
    let l = c.loop-lo in
    record {
      order = omega arith;
      within = omega (arith, l.invariant.within);
      below = l.invariant.below;
      stops = inr (sym b.ensures ∙ c.if-is_row_below.false);
    }

pub returns : goal.returns
returns c =
    let l = c.loop-lo in
    let e : l.hi ≡ l.lo = omega (arith, l.invariant.order) in
    record { within = rw (← e) l.invariant.within; below = l.invariant.below; stops = rw (← e) l.invariant.stops }
