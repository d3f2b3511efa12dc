-- `row::are_fields_sound` meets its contract: the definition's tests in turn. Assumes nothing.
use native.Mathlib.Omega.{arith}
use lib.ListN.{length-take, length-drop}
use borrow.Author.Tests.{not-true, not-false}
use Rattle.casemaster.specs.Row.{are_fields_sound}
use Rattle.casemaster.proofs.row.are_fields_sound.Goals as goal

pub returns-then-not-all_digits : goal.returns-then-not-all_digits
unfolding are_fields_sound
returns-then-not-all_digits c = rw (← c.field.ensures, ← c.all_digits.ensures, not-true c.all_digits.result c.if-not-all_digits.true-raw)

pub returns-then-not-has_arrearage_digits : goal.returns-then-not-has_arrearage_digits
unfolding are_fields_sound
returns-then-not-has_arrearage_digits c =
    rw (
      ← c.field.ensures,
      ← c.all_digits.ensures,
      not-false c.all_digits.result c.if-not-all_digits.false-raw,
      ← c.has_arrearage_digits.ensures,
      not-true c.has_arrearage_digits.result c.if-not-has_arrearage_digits.true-raw,
    )

pub returns-then-not-all_digits-2 : goal.returns-then-not-all_digits-2
unfolding are_fields_sound
returns-then-not-all_digits-2 c =
    rw (
      ← c.field.ensures,
      ← c.all_digits.ensures,
      not-false c.all_digits.result c.if-not-all_digits.false-raw,
      ← c.has_arrearage_digits.ensures,
      not-false c.has_arrearage_digits.result c.if-not-has_arrearage_digits.false-raw,
      ← c.field-2.ensures,
      ← c.all_digits-2.ensures,
      not-true c.all_digits-2.result c.if-not-all_digits-2.true-raw,
    )

pub is_lettered_name-requires : goal.is_lettered_name-requires
is_lettered_name-requires c = rw c.field-3.ensures (simp (length-take, length-drop) (omega arith))

pub returns : goal.returns
unfolding are_fields_sound
returns c =
    rw (
      ← c.field.ensures,
      ← c.all_digits.ensures,
      not-false c.all_digits.result c.if-not-all_digits.false-raw,
      ← c.has_arrearage_digits.ensures,
      not-false c.has_arrearage_digits.result c.if-not-has_arrearage_digits.false-raw,
      ← c.field-2.ensures,
      ← c.all_digits-2.ensures,
      not-false c.all_digits-2.result c.if-not-all_digits-2.false-raw,
      ← c.field-3.ensures,
    )
    c.is_lettered_name.ensures
