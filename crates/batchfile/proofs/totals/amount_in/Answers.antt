-- `totals::amount_in`: a field of eight digits has the number that the digits write. Assumes nothing.
use mathlib.Core.Path.{◌≡◌, sym, ap, ◌∙◌}
use native.Mathlib.Omega.{arith}
use lib.Dec.{eqb}
use Rattle.batchfile.specs.Totals.{amount_in}
use Rattle.text.specs.Fields.{columns, are_digits}
use Rattle.layout.specs.Record.{case_type_of}
use Rattle.text.proofs.FieldsLaws.{and_right, digits_width, digits_all}
use Rattle.batchfile.proofs.totals.amount_in.Goals as goal

pub number_of-requires : goal.number_of-requires
number_of-requires c =
    let a = c.args in
    let t =
    sym c.are_digits.ensures
    ∙ and_right c.has_amount.result _ (and_right (eqb (case_type_of a.rec.now) a.case_type) _ c.if-rec-case_type.true) in
    (omega (arith, digits_width 8 _ t), digits_all 8 _ t)

pub returns-then-rec-case_type : goal.returns-then-rec-case_type
unfolding amount_in
returns-then-rec-case_type c =
    let d : c.are_digits.result ≡ are_digits 8 (columns 65 72 c.args.rec.now) =
    c.are_digits.ensures ∙ ap (are_digits 8) c.field-amount.ensures in
    rw (← d, ← c.has_amount.ensures, c.if-rec-case_type.true, c.number_of.ensures.0, c.field-amount.ensures)

pub returns-else-rec-case_type : goal.returns-else-rec-case_type
unfolding amount_in
returns-else-rec-case_type c =
    let d : c.are_digits.result ≡ are_digits 8 (columns 65 72 c.args.rec.now) =
    c.are_digits.ensures ∙ ap (are_digits 8) c.field-amount.ensures in
    rw (← d, ← c.has_amount.ensures, c.if-rec-case_type.false)
