-- `locals::is_local_list` meets its contract: codes are digits where the whole list is, and they rise as `is_rising` says. Assumes nothing.
use mathlib.Core.Bool.{true≢false}
use mathlib.Core.Path.{refl, sym, ◌∙◌}
use borrow.Author.Tests.{ne_eqb}
use Rattle.layout.specs.Locals.{is_local_list}
use Rattle.layout.proofs.LocalsLaws.{local_list}
use Rattle.layout.proofs.locals.is_local_list.Goals as goal
use Rattle.layout.proofs.locals.is_local_list.Goals.{then-list-eq0, else-list-eq0}

pub returns-then-all_digits : goal.returns-then-all_digits
returns-then-all_digits c =
    elim c.if-list-eq0.branch [
      | then-list-eq0 w ↦
          rw (local_list c.args.list.now w.if-list-eq0.true, ← w.all_digits.ensures, ← w.value-is, c.if-all_digits.true) c.is_rising.ensures
      | else-list-eq0 w ↦ absurd (true≢false (sym c.if-all_digits.true ∙ w.value-is ∙ ne_eqb _ _ w.if-list-eq0.false))
    ]

pub returns-else-all_digits : goal.returns-else-all_digits
unfolding is_local_list
returns-else-all_digits c =
    elim c.if-list-eq0.branch [
      | then-list-eq0 w ↦
          rw (local_list c.args.list.now w.if-list-eq0.true, ← w.all_digits.ensures, ← w.value-is, c.if-all_digits.false) refl
      | else-list-eq0 w ↦ rw (w.value-is, ne_eqb _ _ w.if-list-eq0.false) refl
    ]
