-- `tagged::kind_of`: a record without a type is none of the ten. Assumes nothing.
use lib.Dec.{lit<}
use Rattle.layout.specs.declared.record.TransactionType.TheVariants.{Add, Rename, CaseId, Delete, LocalCode, Modify, Exclude, Payment, Transfer, Address}
use Rattle.layout.proofs.TypeLaws.{not_of}
use Rattle.keyorder.specs.Tagged.{kind_of}
use Rattle.keyorder.proofs.tagged.kind_of.Goals as goal

pub returns-in-None : goal.returns-in-None
unfolding kind_of
returns-in-None c =
    let rec = c.args.rec.now in
    let n = c.in-None.ensures in
    (rw (not_of rec n Add, not_of rec n Rename, not_of rec n CaseId, not_of rec n Delete, not_of rec n LocalCode, not_of rec n Modify, not_of rec n Exclude, not_of rec n Payment, not_of rec n Transfer, not_of rec n Address), lit< tt)
