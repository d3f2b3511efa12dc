-- Document 02, item 9: many cases looked up together. Assumes nothing.
use Rattle.std.specs.Prelude.{ℕ, suc, ◌/◌, ◌%◌, List, [], ◌∷◌, Bool, not, ◌&&◌, eqb, ltb, length, Result}
use Rattle.answers.specs.Answer.{refuse_if, Answer, Outcome, Run, outcome_by}
use Rattle.answers.specs.Refusal.{answer_in}
use Rattle.answers.specs.declared.refusal.Refusal.{Refusal}
use Rattle.text.specs.Fields.{every}
use Rattle.text.specs.Blocks.{blocks, over}
use Rattle.text.specs.ByteOrder.{Order, less, equal, greater, order_of, rising}
use Rattle.layout.specs.Key.{is_sound_key}
use Rattle.casemaster.specs.Row as Row
use Rattle.casemaster.specs.Master.{rows_of}
use Rattle.casemaster.specs.Refusals.{master_refusal}

-- ---- the keys

-- a list of keys, twelve bytes each
abbrev pub keys_in : List ℕ → List (List ℕ)
keys_in keys = blocks 12 (length keys / 12) keys

-- whole keys, each sound, strictly rising; an empty list passes
unfoldable pub are_keys : List ℕ → Bool
are_keys keys = eqb (length keys % 12) 0 && (every is_sound_key (keys_in keys) && rising (keys_in keys))

-- ---- the walk

-- none being 4,294,967,295
abbrev pub no_place : ℕ
no_place = 4294967295

-- the answers, one for each key, and the number of comparisons with a row
pub record LookedUp : Type 0 where
  pub answers : List ℕ
  pub comparisons : ℕ

-- one comparison more
abbrev pub one_comparison : LookedUp → LookedUp
one_comparison w = record { answers = w.answers; comparisons = suc w.comparisons }

-- the answer of the present key, which is passed
abbrev pub answered : ℕ → LookedUp → LookedUp
answered answer w = record { answers = answer ∷ w.answers; comparisons = w.comparisons }

-- one of three, by the order of the present row's key against the present key
abbrev pub by_row : Order → LookedUp → LookedUp → LookedUp → LookedUp
by_row less smaller same larger = smaller
by_row equal smaller same larger = same
by_row greater smaller same larger = larger

-- The walk compares the present key with the present row, which stands at a place: a smaller row is passed; an equal one gives its place, a
-- larger one or no row left gives none, and the key is passed. A deleted row is met like a live one.
unfoldable pub walk : List (List ℕ) → ℕ → List (List ℕ) → LookedUp
walk [] place rows = record { answers = []; comparisons = 0 }
walk (key ∷ keys) place [] = answered no_place (walk keys place [])
walk (key ∷ keys) place (row ∷ rows) =
    one_comparison
    (by_row (order_of (Row.row_key row) key)
    (walk (key ∷ keys) (suc place) rows)
    (answered place (walk keys place (row ∷ rows)))
    (answered no_place (walk keys place (row ∷ rows))))

-- the walk of a call, from the first key and the first row on
abbrev pub whole_walk : List ℕ → ℕ → List ℕ → LookedUp
whole_walk master rows keys = walk (keys_in keys) 0 (rows_of rows master)

-- ---- the call

-- refused, in order: 3; 4; 27, keys unsound or not strictly rising; 28, an answer list shorter than the keys; the limit is that of 3, and nothing
-- else takes it
unfoldable pub many_refusal : ℕ → List ℕ → ℕ → List ℕ → List ℕ → ℕ
many_refusal limit master rows keys places =
    master_refusal limit master rows
    (refuse_if (not (are_keys keys)) 27
    (refuse_if (ltb (length places) (length keys / 12)) 28 0))

-- the answer: the number of comparisons with a row, or a refusal's number
abbrev pub many_answer : Result ℕ Refusal → Answer ℕ
many_answer r = answer_in (λ n. n) r

-- the answer and every number lent that can be written
abbrev pub ManyOutcome : Type 0
ManyOutcome = Outcome ℕ (List ℕ)

abbrev pub many_as : Result ℕ Refusal → List ℕ → ManyOutcome
many_as answer places = record { answer = many_answer answer; buffers = places }

-- the walk's answers at the front of the list; those behind the last key are kept
abbrev pub many_run : List ℕ → ℕ → List ℕ → List ℕ → Run ℕ (List ℕ)
many_run master rows keys places =
    record { result = (whole_walk master rows keys).comparisons; buffers = over (whole_walk master rows keys).answers places }

unfoldable pub many_outcome : ℕ → List ℕ → ℕ → List ℕ → List ℕ → ManyOutcome
many_outcome limit master rows keys places = outcome_by (many_refusal limit master rows keys places) places (many_run master rows keys places)
