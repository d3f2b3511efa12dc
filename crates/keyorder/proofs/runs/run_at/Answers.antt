use mathlib.Core.Path.{◌≡◌, refl, sym, ◌∙◌}
use mathlib.Core.Logic.{inl, inr}
use native.Mathlib.Omega.{arith}
use lib.ListN.{get_or}
use Rattle.keyorder.specs.Tagged.{rank_part}
use Rattle.keyorder.proofs.RunLaws.{RunTo, run_first, run_next, run_found}
use Rattle.keyorder.proofs.runs.run_at.Goals as goal

pub loop-e-init : goal.loop-e-init
loop-e-init c =
    let a = c.args in
    rw (c.makes_from-makes.ensures, c.flag_gives-gives.ensures) (run_first a.numbers.now a.p)

pub returns-then-rank_part-rank : goal.returns-then-rank_part-rank
returns-then-rank_part-rank c =
    let a = c.args in
    let l = c.loop-e in
    run_found (a.numbers.now) a.p a.own l.e l.gives l.makes l.invariant (omega arith)
    (inr (λ (x : rank_part (get_or (a.numbers.now) l.e 0) ≡ rank_part (get_or (a.numbers.now) a.p 0)). c.if-rank_part-rank.true (c.rank_part.ensures ∙ x ∙ sym c.rank_part-rank.ensures)))

pub loop-e-preserved : goal.loop-e-preserved
loop-e-preserved c =
    let a = c.args in
    let l = c.loop-e in
    rw (c.makes_from-makes-in-loop-e.ensures, c.flag_gives-gives-in-loop-e.ensures)
    (run_next a.numbers.now a.p l.e l.gives l.makes l.invariant (sym c.rank_part.ensures ∙ c.if-rank_part-rank.false ∙ c.rank_part-rank.ensures))

pub returns : goal.returns
returns c =
    let a = c.args in
    let l = c.loop-e in
    let e : l.e ≡ a.own = omega arith in
    let r : RunTo a.numbers.now a.p a.own l.gives l.makes = rw e at l.invariant in
    run_found a.numbers.now a.p a.own a.own l.gives l.makes r (omega arith) (inl refl)
