-- `counting::count_key`: the search stops at the first row that isn't below the key, so that row alone can be the key's; where no detail makes a
-- row nothing is looked for. Assumes nothing.
use mathlib.Core.Path.{ap, ◌∙◌}
use native.Mathlib.Omega.{arith}
use borrow.Author.Tests.{not-true, not-false}
use Rattle.keyorder.specs.Order.{key_of_rank}
use Rattle.keywalk.proofs.WalkStepLaws.{counted_idle, counted_new}
use Rattle.keywalk.proofs.counting.count_key.Goals as goal

pub returns-then-not-makes : goal.returns-then-not-makes
returns-then-not-makes c =
    let a = c.args in
    let f = c.run_at-run.ensures in (
      counted_idle a.state.now a.own a.n a.m.now a.numbers.now a.s c.run_at-run.result f (not-true _ c.if-not-makes.true-raw),
      omega (arith, f.run.later, c.requires.from_le_n.2),
    )

pub overflow_add-result : goal.overflow_add-result
overflow_add-result c = omega (arith, c.one_if-one.ensures.1, c.requires.from_le_n.2, c.requires.position_lt_own.0, c.well_formed)

pub returns : goal.returns
returns c =
    let a = c.args in
    let f = c.run_at-run.ensures in (
      counted_new a.state.now a.own a.n a.m.now a.numbers.now a.s c.run_at-run.result f (not-false _ c.if-not-makes.false-raw) c.key_of-key.result c.rows_below.result c.one_if-one.result
          (c.key_of-key.ensures ∙ ap (key_of_rank a.state.now) c.rank_part.ensures) c.rows_below.ensures
          (c.one_if-one.ensures.0 ∙ rw c.is_row_of.ensures),
      omega (arith, f.run.later, c.one_if-one.ensures.1, c.requires.from_le_n.2),
    )
