-- What a record does to its row by the type that was read of it. Assumes nothing.
use Rattle.std.proofs.Common.{◌≡◌, ℕ, List, Option, Some, None}
use Rattle.layout.specs.TransactionType.{IsTypeOf}
use Rattle.layout.specs.declared.record.TransactionType.{TransactionType}
use Rattle.layout.specs.declared.record.TransactionType.TheVariants.{Add, Rename, CaseId, Delete, LocalCode, Modify, Exclude, Payment, Transfer, Address}
use Rattle.layout.proofs.TypeLaws.{not_of}
use Rattle.onecase.specs.Machine.{changed}
use Rattle.onecase.specs.Changes.{renamed, reidentified, deleted, relocated, amended, excluded, paid, transferred, readdressed}

-- the change of a type; without one it is Z's
abbrev pub change_of : Option TransactionType → List ℕ → List ℕ → List ℕ
change_of (Some Add) rec row = readdressed rec row
change_of (Some Rename) rec row = renamed rec row
change_of (Some CaseId) rec row = reidentified rec row
change_of (Some Delete) rec row = deleted row
change_of (Some LocalCode) rec row = relocated rec row
change_of (Some Modify) rec row = amended rec row
change_of (Some Exclude) rec row = excluded rec row
change_of (Some Payment) rec row = paid rec row
change_of (Some Transfer) rec row = transferred rec row
change_of (Some Address) rec row = readdressed rec row
change_of None rec row = readdressed rec row

pub changed_by : (rec row : List ℕ) (found : Option TransactionType) → IsTypeOf rec found → changed rec row ≡ change_of found rec row
unfolding changed
changed_by rec row (Some Add) e = rw (← e)
changed_by rec row (Some Rename) e = rw (← e)
changed_by rec row (Some CaseId) e = rw (← e)
changed_by rec row (Some Delete) e = rw (← e)
changed_by rec row (Some LocalCode) e = rw (← e)
changed_by rec row (Some Modify) e = rw (← e)
changed_by rec row (Some Exclude) e = rw (← e)
changed_by rec row (Some Payment) e = rw (← e)
changed_by rec row (Some Transfer) e = rw (← e)
changed_by rec row (Some Address) e = rw (← e)
changed_by rec row None n =
    rw (not_of rec n Rename, not_of rec n CaseId, not_of rec n Delete, not_of rec n LocalCode, not_of rec n Modify, not_of rec n Exclude, not_of rec n Payment, not_of rec n Transfer)
