-- Document 01, "One-case machine": its state is one row or none, for one key; its step reads the record, the control record's state,
-- the year, the list and, by document 02, item 3, the set of names that the key's own records give, nothing else. Assumes nothing.
use Rattle.std.specs.Prelude.{ℕ, ◌≡◌, List, cond}
use Rattle.std.proofs.Math.Option.{Option, none, some}
use Rattle.text.specs.Characters.{A, B, C, D, L, M, R, S, letter_t}
use Rattle.casemaster.specs.Row.{is_live}
use Rattle.layout.specs.Record.{is_type}
use Rattle.onecase.specs.Verdict.{is_accepted, judgement, meaning, says_accepted}
use Rattle.onecase.specs.Changes.{fresh_row, recertified, renamed, reidentified, deleted, relocated, amended, excluded, paid, transferred, readdressed}
use Rattle.onecase.specs.declared.case.Case.{Case}
use Rattle.onecase.specs.declared.case.Step.{Step}
use Rattle.judging.specs.State.{option_of}
use Rattle.judging.specs.Setting.{Setting}

-- a record of any type but A on its row
unfoldable pub changed : List ℕ → List ℕ → List ℕ
changed rec row =
    cond (is_type B rec) (renamed rec row)
    (cond (is_type C rec) (reidentified rec row)
    (cond (is_type D rec) (deleted row)
    (cond (is_type L rec) (relocated rec row)
    (cond (is_type M rec) (amended rec row)
    (cond (is_type R rec) (excluded rec row)
    (cond (is_type S rec) (paid rec row)
    (cond (is_type letter_t rec) (transferred rec row)
    (readdressed rec row))))))))

-- A: with no row, or a deleted one, a fresh row
unfoldable pub added : List ℕ → List ℕ → Option (List ℕ) → List ℕ
added list rec none = fresh_row list rec
added list rec (some row) = cond (is_live row) (recertified list rec row) (fresh_row list rec)

-- a record of any type but A makes no row
abbrev pub changed_row : List ℕ → Option (List ℕ) → Option (List ℕ)
changed_row rec none = none
changed_row rec (some row) = some (changed rec row)

-- what a record without an error leaves
unfoldable pub applied : List ℕ → Option (List ℕ) → List ℕ → Option (List ℕ)
applied list row rec = cond (is_type A rec) (some (added list rec row)) (changed_row rec row)

-- the row after the step, where row is none or has the record's key: an error changes nothing
unfoldable pub next : Setting → Option (List ℕ) → List ℕ → Option (List ℕ)
next setting row rec = cond (is_accepted setting row rec) (applied setting.list row rec) row

-- the state that the code's value stands for
abbrev pub row_of : Case → Option (List ℕ)
row_of c = option_of c.row

-- an answer of the step: the new state, the verdict, and that accepted is said exactly where no error holds
pub record IsStep (setting : Setting) (row : Option (List ℕ)) (rec : List ℕ) (answer : Step) : Type 0 where
  pub row_is : row_of answer.case ≡ next setting row rec
  pub verdict_is : meaning answer.verdict ≡ judgement setting row rec
  pub accepted_is : says_accepted answer.verdict ≡ is_accepted setting row rec
