-- `fields::number_at` meets its contract: the number of the field that `field` hands on, whose width bounds it. Assumes nothing.
use mathlib.Core.Path.{◌≡◌, ap, ◌∙◌}
use Prim.Native.Nat.{◌+◌, ◌-◌}
use native.Mathlib.Omega.{arith}
use lib.ListN.{length}
use Rattle.text.specs.Fields.{all_digits, number}
use Rattle.text.proofs.FieldsLaws.{length-columns}
use Rattle.text.proofs.fields.number_at.Goals as goal

pub number_of-requires : goal.number_of-requires
number_of-requires c =
    let a = c.args in
    let w : length c.field.result.now ≡ a.c.last + 1 - a.c.first =
    ap length c.field.ensures ∙ length-columns a.c.first a.c.last a.s.now c.requires.0 in
    (omega (arith, w, c.requires.1, c.requires.0.ordered), ap all_digits c.field.ensures ∙ c.requires.2)

pub returns : goal.returns
returns c =
    let a = c.args in
    let w : length c.field.result.now ≡ a.c.last + 1 - a.c.first =
    ap length c.field.ensures ∙ length-columns a.c.first a.c.last a.s.now c.requires.0 in
    (c.number_of.ensures.0 ∙ ap number c.field.ensures, rw w at c.number_of.ensures.1)
