-- `has_address` answers for the lines: each call answers for one. Assumes nothing.
use Rattle.contactrecord.specs.Contact.{has_address}
use Rattle.contactrecord.proofs.contact.has_address.Goals as goal

pub returns : goal.returns
unfolding has_address
returns c =
    rw (
      c.is_blank-four.ensures,
      c.field-4.ensures,
      c.is_blank-three.ensures,
      c.field-3.ensures,
      c.is_blank-two.ensures,
      c.field-2.ensures,
      c.is_blank-one.ensures,
      c.field.ensures,
    )
