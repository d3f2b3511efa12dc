-- `is_telephone` answers for the fourteen columns: the bytes one by one, the digits by their fields. Assumes nothing.
use Rattle.contactrecord.specs.Contact.{is_telephone}
use borrow.Author.Tests.{eq-eqb, ne_eqb}
use Rattle.contactrecord.proofs.contact.is_telephone.Goals as goal

pub returns-then-s-ne14 : goal.returns-then-s-ne14
unfolding is_telephone
returns-then-s-ne14 c =
    rw (ne_eqb _ _ c.if-s-ne14.true)

pub returns : goal.returns
unfolding is_telephone
returns c =
    rw (
      c.all_digits-line.ensures,
      c.field-3.ensures,
      c.all_digits-exchange.ensures,
      c.field-2.ensures,
      c.all_digits-area.ensures,
      c.field.ensures,
      eq-eqb _ _ c.if-s-ne14.false,
    )
