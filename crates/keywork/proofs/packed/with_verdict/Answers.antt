-- `packed::with_verdict`: the low part is below 2 ^ 19, the high part below 2 ^ 21 and the index below 2 ^ 24, so none runs into another.
-- Assumes nothing.
use mir.Syntax.{w64}
use mir.Val.{Fits}
use borrow.Author.Rules.{rules}
use native.Mathlib.Omega.{arith}
use mathlib.Core.Path.{sym, subst}
use Rattle.onecase.specs.Verdict.{meaning, four_bytes}
use Rattle.onecase.specs.declared.verdict.Verdict.{Verdict}
use Rattle.keywork.specs.Packed.{Packed}
use Rattle.keywork.proofs.PackedLaws.{packed_set, packed_name}
use Rattle.keywork.proofs.packed.with_verdict.Goals as goal

pub returns-in-Accepted : goal.returns-in-Accepted
returns-in-Accepted c =
    let a = c.args in
    let g = c.in-Accepted in
    let f : Fits w64 g.set = search rules in
    subst (λ (w : Verdict). Packed c.joined.result a.i (meaning w)) (sym g.is) (packed_set a.i g.set c.joined.result f.fits c.joined.ensures)

pub returns-in-Rejected : goal.returns-in-Rejected
returns-in-Rejected c =
    let a = c.args in
    let g = c.in-Rejected in
    let f : Fits w64 g.set = search rules in
    subst (λ (w : Verdict). Packed c.joined-in-Rejected.result a.i (meaning w)) (sym g.is) (packed_set a.i g.set c.joined-in-Rejected.result f.fits c.joined-in-Rejected.ensures)

pub returns-in-RejectedWithName : goal.returns-in-RejectedWithName
returns-in-RejectedWithName c =
    let a = c.args in
    let g = c.in-RejectedWithName in
    let f : Fits w64 g.set = search rules in
    let n = c.name_number.ensures in
    subst (λ (w : Verdict). Packed c.joined-in-RejectedWithName.result a.i (meaning w)) (sym g.is)
    (packed_name a.i g.set c.joined-in-RejectedWithName.result f.fits (four_bytes g.name) (omega (arith, n.0, n.1)) (rw (← n.0) c.joined-in-RejectedWithName.ensures))
