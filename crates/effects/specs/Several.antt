-- Document 02, item 10: one file sent as several. The batches of a list, one behind the other from the master that the single batch found,
-- leave the single batch's master and verdicts, provided no key with a B record has records in two of them. Over any limits and buffers.
-- Assumes nothing.
use Rattle.std.specs.Prelude.{ℕ, ◌+◌, ◌≤◌, ◌≡◌, List, [], ◌∷◌, ◌++◌, Bool, true, false, cond, ◌||◌}
use Rattle.answers.specs.Answer.{is_carried_out}
use Rattle.text.specs.Characters.{B}
use Rattle.layout.specs.Record.{is_type}
use Rattle.layout.specs.Batch.{details_of, submitting_state}
use Rattle.casemaster.specs.Master.{rows_of}
use Rattle.onecase.specs.Verdict.{Judgement}
use Rattle.turns.specs.Under.{details_under, IsKey}
use Rattle.batch.specs.Call.{Call}
use Rattle.batch.specs.Apply.{ApplyOutcome, IsOutcome, row_count, rows_left}
use Rattle.effects.specs.TwoBatches.{verdicts_left}

-- ---- a batch that was sent

-- all that was lent to its call, and what the call left
pub record Sent : Type 0 where
  pub call : Call
  pub outcome : ApplyOutcome

-- what it left is what `apply` promises
abbrev pub IsApplied : Sent → Type 0
IsApplied s = IsOutcome s.call s.outcome

abbrev pub WasCarriedOut : Sent → Type 0
WasCarriedOut s = is_carried_out s.outcome.answer ≡ true

-- the same state, year and codes
abbrev pub SameState : Sent → Sent → Type 0
SameState s t = submitting_state s.call.batch ≡ submitting_state t.call.batch

abbrev pub SameYear : Sent → Sent → Type 0
SameYear s t = s.call.year ≡ t.call.year

abbrev pub SameCodes : Sent → Sent → Type 0
SameCodes s t = s.call.locals ≡ t.call.locals

-- of each batch of a list
abbrev pub EachSent : (Sent → Type 0) → List Sent → Type 0
EachSent P [] = Unit {0}
EachSent P (s ∷ rest) = P s × EachSent P rest

-- ---- one behind the other

-- a master: its row count and its rows, whatever stands behind them
pub record Master : Type 0 where
  pub count : ℕ
  pub rows : List (List ℕ)

abbrev pub master_found : Sent → Master
master_found s = record { count = s.call.rows; rows = rows_of s.call.rows s.call.master }

abbrev pub master_left : Sent → Master
master_left s = record { count = row_count s.outcome.answer; rows = rows_left s.outcome }

-- each finds the master that the one before it left, the first of them the one that is given
abbrev pub OneBehindTheOther : Master → List Sent → Type 0
OneBehindTheOther master [] = Unit {0}
OneBehindTheOther master (s ∷ rest) = (master_found s ≡ master) × OneBehindTheOther (master_left s) rest

-- what the last of them left; without batches, the one that is given
abbrev pub last_master : Master → List Sent → Master
last_master master [] = master
last_master master (s ∷ rest) = last_master (master_left s) rest

-- ---- joined

-- the details of a batch, and of a list of batches
abbrev pub details_sent : Sent → List (List ℕ)
details_sent s = details_of s.call.batch

unfoldable pub joined_details : List Sent → List (List ℕ)
joined_details [] = []
joined_details (s ∷ rest) = details_sent s ++ joined_details rest

-- the verdicts on them in batch order, each a set of codes with the four characters of 17
abbrev pub verdicts_sent : Sent → List Judgement
verdicts_sent s = verdicts_left s.call s.outcome

unfoldable pub joined_verdicts : List Sent → List Judgement
joined_verdicts [] = []
joined_verdicts (s ∷ rest) = verdicts_sent s ++ joined_verdicts rest

-- ---- the proviso

-- a B record, erroneous or not, is among some records
unfoldable pub any_b : List (List ℕ) → Bool
any_b [] = false
any_b (rec ∷ recs) = is_type B rec || any_b recs

-- any record is among them
abbrev pub any_record : List (List ℕ) → Bool
any_record [] = false
any_record (rec ∷ recs) = true

-- how many batches of a list have records of a key
unfoldable pub batches_with : List ℕ → List Sent → ℕ
batches_with key [] = 0
batches_with key (s ∷ rest) = cond (any_record (details_under key (details_sent s))) 1 0 + batches_with key rest

-- no key with a B record has records in two of them
abbrev pub NoBInTwo : List Sent → Type 0
NoBInTwo parts = (key : List ℕ) → IsKey key → any_b (details_under key (joined_details parts)) ≡ true → batches_with key parts ≤ 1

-- ---- the claim

-- the master, row count and rows, and the verdicts are the single batch's
pub record SameAsWhole (whole : Sent) (parts : List Sent) : Type 0 where
  pub master : last_master (master_found whole) parts ≡ master_left whole
  pub verdicts : joined_verdicts parts ≡ verdicts_sent whole

abbrev pub Several : Type 0
Several =
    (whole : Sent) (parts : List Sent)
    → IsApplied whole
    → EachSent IsApplied parts
    → WasCarriedOut whole
    → EachSent WasCarriedOut parts
    → EachSent (SameState whole) parts
    → EachSent (SameYear whole) parts
    → EachSent (SameCodes whole) parts
    → OneBehindTheOther (master_found whole) parts
    → joined_details parts ≡ details_sent whole
    → NoBInTwo parts
    → SameAsWhole whole parts
