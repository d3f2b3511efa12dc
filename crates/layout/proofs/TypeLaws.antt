-- A record's type as it was read: what a type's letter says of the record, and what it says that there is none. Assumes nothing.
use Rattle.std.proofs.Common.{◌≡◌, ℕ, List, Option, Some, None, Result, Ok, Err, sym, false}
use Rattle.std.specs.Prelude.{is_some}
use Rattle.std.specs.Result.{result_ok}
use borrow.Author.Tests.{ne_eqb}
use Rattle.layout.specs.Record.{type_of, is_type, is_known_type}
use Rattle.layout.specs.TransactionType.{type_byte, IsNoType, Decodes, IsTypeOf}
use Rattle.layout.specs.declared.record.TransactionType.{TransactionType}
use Rattle.layout.specs.declared.record.TransactionType.TheVariants.{Add, Rename, CaseId, Delete, LocalCode, Modify, Exclude, Payment, Transfer, Address}
use Rattle.layout.specs.declared.record.UnknownType.{UnknownType}

-- a record whose letter is no type's is not of a type
pub not_of : (rec : List ℕ) → IsNoType (type_of rec) → (t : TransactionType) → is_type (type_byte t) rec ≡ false
not_of rec n t = ne_eqb _ _ (λ e. n.is_other t (sym e))

-- what reading the letter gives, without the error
pub read_letter : (rec : List ℕ) (r : Result TransactionType UnknownType) → Decodes (type_of rec) r → IsTypeOf rec (result_ok r)
read_letter rec (Ok t) d = d
read_letter rec (Err e) d = d.1

-- a record with a type is of one of the ten
pub known_by : (rec : List ℕ) (found : Option TransactionType) → IsTypeOf rec found → is_some found ≡ is_known_type rec
unfolding is_known_type
known_by rec (Some Add) e = rw (← e)
known_by rec (Some Rename) e = rw (← e)
known_by rec (Some CaseId) e = rw (← e)
known_by rec (Some Delete) e = rw (← e)
known_by rec (Some LocalCode) e = rw (← e)
known_by rec (Some Modify) e = rw (← e)
known_by rec (Some Exclude) e = rw (← e)
known_by rec (Some Payment) e = rw (← e)
known_by rec (Some Transfer) e = rw (← e)
known_by rec (Some Address) e = rw (← e)
known_by rec None n =
    rw (not_of rec n Add, not_of rec n Rename, not_of rec n CaseId, not_of rec n Delete, not_of rec n LocalCode, not_of rec n Modify, not_of rec n Exclude, not_of rec n Payment, not_of rec n Transfer, not_of rec n Address)
