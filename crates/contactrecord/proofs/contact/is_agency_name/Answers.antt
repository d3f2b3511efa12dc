-- `is_agency_name` answers for either text: their bytes are those of the definition. Assumes nothing.
use Rattle.contactrecord.specs.Contact.{is_agency_name}
use Rattle.contactrecord.proofs.contact.is_agency_name.Goals as goal

pub returns : goal.returns
unfolding is_agency_name
returns c =
    rw (
      c.holds_text-family.ensures,
      c.holds_text-child.ensures,
    )
