-- `names_irs_or_fms` answers for either word: their bytes are those of the definition. Assumes nothing.
use Rattle.contactrecord.specs.Contact.{names_irs_or_fms}
use Rattle.contactrecord.proofs.contact.names_irs_or_fms.Goals as goal

pub returns : goal.returns
unfolding names_irs_or_fms
returns c =
    rw (
      c.has_run-2.ensures,
      c.has_run.ensures,
    )
