use mathlib.Core.Path.{◌≡◌, ap, ◌∙◌}
use Prim.Native.Nat.{ℕ, ◌+◌, ◌-◌, ◌*◌}
use native.Mathlib.Omega.{arith}
use Rattle.casemaster.specs.Search.{shifted}
use Rattle.casemaster.proofs.MovedLaws.{shifted_none, raised_step, raised_all, raised_none}
use Rattle.casemaster.proofs.master.shift_rows.Goals as goal

pub returns-then-by-eq0 : goal.returns-then-by-eq0
returns-then-by-eq0 c =
    let a = c.args in
    rw c.if-by-eq0.true (raised_none a.m.now a.n)

pub loop-i-init : goal.loop-i-init
loop-i-init c =
    let a = c.args in
    shifted_none a.m.now (a.n * 200) (a.by * 200)

pub loop-i-preserved : goal.loop-i-preserved
loop-i-preserved c =
    let l = c.loop-i in
    let a = c.args in
    let i : ℕ = l.i - 1 in
    let e : l.i ≡ i + 1 = omega arith in
    c.copy_within.ensures.after
    ∙ raised_step a.m.now a.n a.by c.requires l.m i (omega arith) l.auto.m
    (l.invariant ∙ ap (λ (z : ℕ). shifted a.m.now (z * 200) (a.n * 200) (a.by * 200)) e)

pub returns : goal.returns
returns c =
    let l = c.loop-i in
    let a = c.args in
    let e : l.i * 200 ≡ 0 = omega arith in
    raised_all a.m.now a.n a.by c.requires l.m
    (l.invariant ∙ ap (λ (z : ℕ). shifted a.m.now z (a.n * 200) (a.by * 200)) e) l.auto.m
