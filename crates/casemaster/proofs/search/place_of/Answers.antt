use mathlib.Core.Path.{◌≡◌}
use Prim.Native.Nat.{ℕ, ◌+◌, ◌-◌, ◌/◌}
use native.Mathlib.Nat.{not-suc-le-zero}
use native.Mathlib.Omega.{arith}
use Rattle.text.proofs.BlocksLaws.{length-blocks}
use Rattle.casemaster.proofs.HalvingLaws.{turn_less, turn_equal, turn_greater, turn_gap}
use Rattle.casemaster.proofs.search.place_of.Goals as goal

pub loop-lo-init : goal.loop-lo-init
loop-lo-init c =
    let a = c.args in
    (omega arith, omega arith, λ i h. absurd (not-suc-le-zero h), λ i h k. absurd (omega (arith, length-blocks 200 a.n a.m.now)))

pub loop-lo-preserved-in-Less : goal.loop-lo-preserved-in-Less
loop-lo-preserved-in-Less c =
    let a = c.args in
    let l = c.loop-lo in
    let p : ℕ = l.lo + (l.hi - l.lo) / 2 in (
      omega arith,
      l.invariant.1,
      turn_less a.n a.m.now a.key.now c.requires.2 p (omega arith)
          c.order_at.result c.order_at.ensures c.in-Less.is,
      l.invariant.3,
    )

pub returns-in-Equal : goal.returns-in-Equal
returns-in-Equal c =
    let a = c.args in
    let l = c.loop-lo in
    let p : ℕ = l.lo + (l.hi - l.lo) / 2 in
    turn_equal a.n a.m.now a.key.now c.requires.2 p (omega arith)
    c.order_at.result c.order_at.ensures c.in-Equal.is

pub loop-lo-preserved : goal.loop-lo-preserved
loop-lo-preserved c =
    let a = c.args in
    let l = c.loop-lo in
    let p : ℕ = l.lo + (l.hi - l.lo) / 2 in (
      omega arith,
      omega arith,
      l.invariant.2,
      turn_greater a.n a.m.now a.key.now c.requires.2 p (omega arith)
          c.order_at.result c.order_at.ensures c.in-Greater.is,
    )

pub returns : goal.returns
returns c =
    let a = c.args in
    let l = c.loop-lo in
    let e : l.hi ≡ l.lo = omega arith in
    turn_gap a.n a.m.now a.key.now l.lo (omega arith) l.invariant.2 (rw e at l.invariant.3)
