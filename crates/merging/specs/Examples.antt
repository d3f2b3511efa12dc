-- Document 02, item 13: worked examples of merging, whole calls. A detail has an amount, type A and a case type, else spaces; the state is
-- OH or AL, the limit four. Assumes nothing.
use Rattle.std.specs.Prelude.{ℕ, List, [], ◌∷◌, ◌++◌}
use Rattle.answers.specs.Answer.{Leaves, Refuses}
use Rattle.text.specs.Characters.{A, H, L, N, O}
use Rattle.text.specs.Fields.{digit_field, spaces}
use Rattle.text.specs.Blocks.{joined}
use Rattle.batchfile.specs.Stated.{Stated, totals_record}
use Rattle.merging.specs.Merge.{MergeOutcome, merge_outcome}

unfoldable pub detail : ℕ → ℕ → List ℕ
detail case_type amount = spaces 64 ++ digit_field 8 amount ++ A ∷ case_type ∷ [] ++ spaces 171

unfoldable pub stating : ℕ → ℕ → ℕ → ℕ → Stated
stating a n x y = record { tanf_count = a; non_tanf_count = n; tanf_amount = x; non_tanf_amount = y }

unfoldable pub batch : List ℕ → List (List ℕ) → Stated → List ℕ
batch state details t = joined details ++ totals_record state t

abbrev pub ohio : List ℕ
ohio = O ∷ H ∷ []

abbrev pub alabama : List ℕ
alabama = A ∷ L ∷ []

-- one detail; two details; none
unfoldable pub batch_of_one : List ℕ
batch_of_one = batch ohio (detail A 100 ∷ []) (stating 1 0 100 0)

unfoldable pub batch_of_two : List ℕ
batch_of_two = batch ohio (detail N 50 ∷ detail A 7 ∷ []) (stating 1 1 7 50)

unfoldable pub empty_batch : List ℕ
empty_batch = batch ohio [] (stating 0 0 0 0)

unfoldable pub both_batch : List ℕ
both_batch = batch ohio (detail A 100 ∷ detail N 50 ∷ detail A 7 ∷ []) (stating 2 1 107 50)

unfoldable pub full_batch : List ℕ
full_batch = batch ohio (detail N 50 ∷ detail A 7 ∷ detail N 50 ∷ detail A 7 ∷ []) (stating 2 2 14 100)

-- a count that is wrong; an amount that is wrong; another state
unfoldable pub miscounted : List ℕ
miscounted = batch ohio (detail A 100 ∷ []) (stating 2 0 100 0)

unfoldable pub missummed : List ℕ
missummed = batch ohio (detail A 100 ∷ []) (stating 1 0 101 0)

unfoldable pub other_state : List ℕ
other_state = batch alabama [] (stating 0 0 0 0)

-- the outcome of a call, of up to four details
abbrev pub left_by : List ℕ → List ℕ → List ℕ → MergeOutcome
left_by first second out = merge_outcome (record { first = first; second = second; out = out; limit = 4 })

pub record MergeExamples : Type 0 where
  -- four records, and three bytes behind them kept
  pub both : Leaves (left_by batch_of_one batch_of_two (spaces 983)) 4 (both_batch ++ spaces 3)
  pub without_details : Leaves (left_by empty_batch batch_of_one (spaces 490)) 2 batch_of_one
  pub neither_has : Leaves (left_by empty_batch empty_batch (spaces 245)) 1 empty_batch
  -- four details are no more than the limit, five are
  pub full : Leaves (left_by batch_of_two batch_of_two (spaces 1225)) 5 full_batch
  pub too_many : Refuses (left_by both_batch batch_of_two (spaces 3)) 32 (spaces 3)
  -- the first input wholly before the second
  pub first_8 : Refuses (left_by missummed [] (spaces 3)) 8 (spaces 3)
  pub second_5 : Refuses (left_by batch_of_one [] (spaces 3)) 5 (spaces 3)
  pub second_7 : Refuses (left_by batch_of_one miscounted (spaces 3)) 7 (spaces 3)
  -- two states before the output
  pub states : Refuses (left_by batch_of_one other_state (spaces 3)) 32 (spaces 3)
  pub short : Refuses (left_by batch_of_one batch_of_two (spaces 979)) 33 (spaces 979)
