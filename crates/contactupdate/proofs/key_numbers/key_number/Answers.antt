-- `key_number` answers the number of a sound key: the place of its state, times a thousand, and its code. Assumes nothing.
use mathlib.Core.Path.{◌≡◌, ap, ◌∙◌}
use Prim.Native.Nat.{◌+◌, ◌*◌}
use native.Mathlib.Omega.{arith}
use borrow.Author.Rules.{rules}
use Rattle.text.specs.Fields.{columns}
use Rattle.text.proofs.FieldsLaws.{digits_all}
use Rattle.layout.specs.States.{is_state}
use Rattle.contactrecord.proofs.ContactLaws.{key_state, key_code}
use Rattle.contactupdate.specs.KeyNumbers.{key_number}
use Rattle.contactupdate.proofs.KeyNumberLaws.{key_number_below}
use Rattle.contactupdate.proofs.key_numbers.key_number.Goals as goal

pub place_of-place-requires : goal.place_of-place-requires
place_of-place-requires c =
    ap is_state c.field.ensures ∙ key_state c.args.rec.now c.requires.1

pub number_at-code-requires : goal.number_at-code-requires
number_at-code-requires c = (
  record { low = search rules; ordered = search rules; high = omega (arith, c.requires.0) },
  search rules,
  digits_all 3 (columns 3 5 c.args.rec.now) (key_code c.args.rec.now c.requires.1),
)

pub overflow_mul-result : goal.overflow_mul-result
overflow_mul-result c = omega (arith, c.place_of-place.ensures.1)

pub overflow_add-result : goal.overflow_add-result
overflow_add-result c = omega (arith, c.place_of-place.ensures.1, c.number_at-code.ensures.1)

pub returns : goal.returns
unfolding key_number
returns c =
    let r = c.args.rec.now in
    let e : c.place_of-place.result * 1000 + c.number_at-code.result ≡ key_number r =
    rw (c.place_of-place.ensures.0, c.number_at-code.ensures.0, c.field.ensures) in
    (e, omega (arith, e, key_number_below r c.requires.1))
