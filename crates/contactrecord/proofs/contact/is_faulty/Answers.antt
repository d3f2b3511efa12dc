-- `is_faulty` answers whether a rule isn't kept: each call answers for one. Assumes nothing.
use Rattle.contactrecord.specs.Contact.{is_faulty}
use Rattle.contactrecord.proofs.contact.is_faulty.Goals as goal

pub returns : goal.returns
unfolding is_faulty
returns c =
    rw (
      c.has_address.ensures,
      c.has_irs_or_fms.ensures,
      c.are_telephones.ensures,
      c.is_contact_key.ensures,
      c.is_blank-filler.ensures,
      c.field-2.ensures,
      c.is_agency_name-agency.ensures,
      c.field.ensures,
    )
