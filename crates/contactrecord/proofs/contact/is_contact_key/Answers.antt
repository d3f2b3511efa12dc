-- `is_contact_key` answers for state and code: each call answers for one. Assumes nothing.
use Rattle.contactrecord.specs.Contact.{is_contact_key}
use Rattle.contactrecord.proofs.contact.is_contact_key.Goals as goal

pub returns : goal.returns
unfolding is_contact_key
returns c =
    rw (
      c.are_digits.ensures,
      c.field-2.ensures,
      c.is_state.ensures,
      c.field.ensures,
    )
