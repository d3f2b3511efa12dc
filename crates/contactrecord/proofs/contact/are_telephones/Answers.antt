-- `are_telephones` answers for the four fields: each call answers for one. Assumes nothing.
use Rattle.contactrecord.specs.Contact.{are_telephones}
use Rattle.contactrecord.proofs.contact.are_telephones.Goals as goal

pub returns : goal.returns
unfolding are_telephones
returns c =
    rw (
      c.is_extension-second_extension.ensures,
      c.field-5.ensures,
      c.is_telephone-second.ensures,
      c.field-4.ensures,
      c.is_blank-blank.ensures,
      c.field-3.ensures,
      c.is_extension-first_extension.ensures,
      c.field-2.ensures,
      c.is_telephone-first.ensures,
      c.field.ensures,
    )
