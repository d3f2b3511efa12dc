-- `fields_name_irs_or_fms` answers for the five fields, each read by itself. Assumes nothing.
use Rattle.contactrecord.specs.Contact.{has_irs_or_fms}
use Rattle.contactrecord.proofs.contact.fields_name_irs_or_fms.Goals as goal

pub returns : goal.returns
unfolding has_irs_or_fms
returns c =
    rw (
      c.names_irs_or_fms-5.ensures,
      c.field-5.ensures,
      c.names_irs_or_fms-4.ensures,
      c.field-4.ensures,
      c.names_irs_or_fms-3.ensures,
      c.field-3.ensures,
      c.names_irs_or_fms-2.ensures,
      c.field-2.ensures,
      c.names_irs_or_fms.ensures,
      c.field.ensures,
    )
