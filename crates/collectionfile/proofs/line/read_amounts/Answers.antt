-- `line::read_amounts` meets its contract: both fields as `read_amount` reads them. Assumes nothing.
use Rattle.collectionfile.proofs.AmountLaws.{amounts_are}
use mathlib.Core.Path.{refl, ap, ◌∙◌}
use native.Mathlib.Omega.{arith}
use lib.Dec.{lit≤}
use Rattle.text.proofs.FieldsLaws.{length-columns}
use Rattle.collectionfile.specs.Line.{amount_cents}
use Rattle.collectionfile.proofs.line.read_amounts.Goals as goal

pub read_amount-a-requires : goal.read_amount-a-requires
read_amount-a-requires c = rw c.field.ensures (length-columns 76 86 c.args.line.now (record { low = lit≤ tt; ordered = lit≤ tt; high = omega arith }))

pub read_amount-b-requires : goal.read_amount-b-requires
read_amount-b-requires c = rw c.field-2.ensures (length-columns 87 97 c.args.line.now (record { low = lit≤ tt; ordered = lit≤ tt; high = omega arith }))

pub returns : goal.returns
returns c =
    amounts_are c.args.line.now _ _ _ _ refl (c.read_amount-a.ensures ∙ ap amount_cents c.field.ensures)
    (c.read_amount-b.ensures ∙ ap amount_cents c.field-2.ensures) c.unwrap_or-collection.ensures c.unwrap_or-adjustment.ensures (rw (c.is_some.ensures, c.is_some-2.ensures))
