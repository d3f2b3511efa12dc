-- `row::is_sound_row_in` meets its contract: the definition's tests in turn, the key's by its two numbers. Assumes nothing.
use mathlib.Core.Path.{◌≡◌, ap, ◌∙◌}
use native.Mathlib.Omega.{arith}
use lib.Seq.{length-take-le}
use borrow.Author.Tests.{not-true, not-false}
use Rattle.text.specs.ByteNumbers.{bytes_number}
use Rattle.text.proofs.ByteNumberLaws.{bytes_of, bytes_take}
use Rattle.layout.specs.Key.{is_sound_key}
use Rattle.casemaster.specs.Row.{row_key}
use Rattle.casemaster.specs.Forms.{is_sound_in}
use Rattle.casemaster.proofs.PassLaws.{key_front, key_back}
use Rattle.casemaster.proofs.row.is_sound_row_in.Goals as goal
use Rattle.casemaster.proofs.row.is_sound_row_in.Goals.{After-is_sound_key_in}

-- what the key's test says of the row's key
known : (c : After-is_sound_key_in)
    → c.is_sound_key_in.result ≡ is_sound_key (row_key c.args.row.now)
known c =
    let row = c.args.row.now in
    let b = bytes_of row (λ i h. omega (arith, c.shared_slice_known-1.given i)) in
    c.is_sound_key_in.ensures (row_key row) (length-take-le 12 row (omega arith)) (bytes_take 12 row b)
    (c.requires.front_value.0 ∙ ap bytes_number (key_front row)) (c.requires.front_value.1 ∙ ap bytes_number (key_back row))

pub returns-then-not-is_sound_key_in : goal.returns-then-not-is_sound_key_in
unfolding is_sound_in
returns-then-not-is_sound_key_in c = rw (← known (goal.at.returns-then-not-is_sound_key_in c).After-is_sound_key_in, not-true c.is_sound_key_in.result c.if-not-is_sound_key_in.true-raw)

pub returns-then-not-are_fields_sound : goal.returns-then-not-are_fields_sound
unfolding is_sound_in
returns-then-not-are_fields_sound c =
    rw (
      ← known (goal.at.returns-then-not-are_fields_sound c).After-is_sound_key_in,
      not-false c.is_sound_key_in.result c.if-not-is_sound_key_in.false-raw,
      ← c.are_fields_sound.ensures,
      not-true c.are_fields_sound.result c.if-not-are_fields_sound.true-raw,
    )

pub returns : goal.returns
unfolding is_sound_in
returns c =
    rw (
      ← known (goal.at.returns c).After-is_sound_key_in,
      not-false c.is_sound_key_in.result c.if-not-is_sound_key_in.false-raw,
      ← c.are_fields_sound.ensures,
      not-false c.are_fields_sound.result c.if-not-are_fields_sound.false-raw,
      c.is_end_sound_in.ensures,
    )
