use mathlib.Core.Logic.{inl, inr}
use mathlib.Core.Path.{sym, ◌∙◌}
use Prim.Native.Nat.{◌+◌}
use native.Mathlib.Nat.{not-suc-le-zero}
use native.Mathlib.Omega.{arith}
use borrow.Author.Tests.{not-true, not-false}
use Rattle.casemaster.proofs.search.reach_by_doubling.Goals as goal

pub loop-low-init : goal.loop-low-init
loop-low-init c = (omega arith, λ j h. absurd (not-suc-le-zero h))

pub returns-then-not-is_row_below : goal.returns-then-not-is_row_below
returns-then-not-is_row_below c =
    let b = c.is_row_below in
    let l = c.loop-low in
    record {
      order = omega arith;
      within = omega arith;
      below = l.invariant.1;
      stops = inr (sym b.ensures ∙ not-true b.result c.if-not-is_row_below.true-raw);
    }

pub loop-low-preserved : goal.loop-low-preserved
loop-low-preserved c =
    let b = c.is_row_below in
    let l = c.loop-low in
    (omega arith, λ j h. c.requires.3 c.args.key.now j (l.low + l.low) (omega arith) (omega arith) (sym b.ensures ∙ not-false b.result c.if-not-is_row_below.false-raw))

pub returns : goal.returns
returns c =
    let l = c.loop-low in
    record {
      order = l.invariant.0;
      within = omega arith;
      below = l.invariant.1;
      stops = inl (omega arith);
    }
