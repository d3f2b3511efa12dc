-- One file sent as several: each batch of the list does to the rows what the single batch's settings do to its details, since its own agree
-- with them under the keys of its details; the rows and the verdicts of details that are joined follow. Assumes nothing.
use Prim.Native.Nat.{ℕ, ◌+◌, ◌≤◌}
use mathlib.Core.Path.{◌≡◌, refl, sym, ap, ap₂, ◌∙◌}
use mathlib.Core.Bool.{true}
use mathlib.Core.List.{List, [], ◌∷◌, ◌++◌, append_assoc}
use native.Mathlib.Omega.{arith}
use lib.ListN.{length}
use Rattle.text.proofs.BlocksLaws.{length-blocks}
use Rattle.text.proofs.WidthLaws.{All}
use Rattle.layout.specs.Batch.{submitting_state}
use Rattle.onecase.specs.Verdict.{Judgement}
use Rattle.turns.specs.Turns.{final_rows, verdicts_on}
use Rattle.turns.specs.Under.{details_under, IsKey}
use Rattle.turns.specs.Settings.{Settings, settings_of}
use Rattle.turns.proofs.AppendLaws.{final_append, verdicts_append, Agree, final_same, verdicts_same, under_append}
use Rattle.batch.specs.Call.{call_settings}
use Rattle.batch.specs.Apply.{call_rows}
use Rattle.effects.specs.Several.{Sent, IsApplied, WasCarriedOut, SameState, SameYear, SameCodes, EachSent, Master, master_found, master_left, OneBehindTheOther, last_master, details_sent, joined_details, verdicts_sent, joined_verdicts, any_b, batches_with, Several}
use Rattle.batch.proofs.CarriedLaws.{records, count_read, rows_read}
use Rattle.effects.proofs.OutcomeLaws.{verdicts_read}
use Rattle.effects.proofs.PartsLaws.{one_if_any, one_append, part-agrees}

-- some rows, counted
abbrev counted : List (List ℕ) → Master
counted rows = record { count = length rows; rows = rows }

-- the rows that a batch found
abbrev rows_found : Sent → List (List ℕ)
rows_found s = (master_found s).rows

-- ---- one batch that is carried out

module _ (s : Sent) (i : IsApplied s) (t : WasCarriedOut s) where
  own_master : master_left s ≡ counted (call_rows s.call)
  own_master =
      ap₂ (λ (n : ℕ) (rows : List (List ℕ)). record { count = n; rows = rows }) (count_read s.call s.outcome i t)
      (rows_read s.call s.outcome i t)

  -- what it leaves, over settings that agree with its own under the keys of its details
  module _ (settings : Settings) (agree : All (Agree (call_settings s.call) settings) (details_sent s)) where
    master_by : master_left s ≡ counted (final_rows settings (rows_found s) (details_sent s))
    master_by = own_master ∙ ap counted (final_same (call_settings s.call) settings (rows_found s) (details_sent s) agree)

    verdicts_by : verdicts_sent s ≡ verdicts_on settings (rows_found s) (details_sent s)
    verdicts_by =
        verdicts_read s.call s.outcome i t
        ∙ verdicts_same (call_settings s.call) settings (rows_found s) (details_sent s) agree

-- ---- the list

-- carried out with the state, year and codes of the whole
record IsPart (whole s : Sent) : Type 0 where
  is : IsApplied s
  carried : WasCarriedOut s
  state : SameState whole s
  year : SameYear whole s
  codes : SameCodes whole s

all_parts : (whole : Sent) (parts : List Sent) → EachSent IsApplied parts → EachSent WasCarriedOut parts → EachSent (SameState whole) parts
    → EachSent (SameYear whole) parts → EachSent (SameCodes whole) parts → EachSent (IsPart whole) parts
all_parts whole [] i t a b c = tt
all_parts whole (s ∷ rest) i t a b c = (
  record { is = i.0; carried = t.0; state = a.0; year = b.0; codes = c.0 },
  all_parts whole rest i.1 t.1 a.1 b.1 c.1,
)

-- the first of them and the others
details_more : (s : Sent) (rest : List Sent) → joined_details (s ∷ rest) ≡ details_sent s ++ joined_details rest
unfolding joined_details
details_more s rest = refl

verdicts_more : (s : Sent) (rest : List Sent) → joined_verdicts (s ∷ rest) ≡ verdicts_sent s ++ joined_verdicts rest
unfolding joined_verdicts
verdicts_more s rest = refl

-- joined, they have records of a key only where one of them has
joined_few : (key : List ℕ) (parts : List Sent) → one_if_any (details_under key (joined_details parts)) ≤ batches_with key parts
unfolding joined_details batches_with details_under
joined_few key [] = omega arith
joined_few key (s ∷ rest) =
    let both = ap (λ (z : List (List ℕ)). one_if_any (details_under key z)) (details_more s rest) in
    let apart = ap one_if_any (under_append key (details_sent s) (joined_details rest)) in
    omega (arith, one_append (details_under key (details_sent s)) (details_under key (joined_details rest)), joined_few key rest)

module _ (whole : Sent) (details : List (List ℕ)) where
  -- the whole's settings, were these its details
  abbrev settings : Settings
  settings = settings_of (submitting_state whole.call.batch) whole.call.year whole.call.locals details

  -- a key with a B record has records in one at most: in the details that have gone before, or in one of the batches to come
  abbrev Few : List (List ℕ) → List Sent → Type 0
  Few before parts =
      (key : List ℕ) → IsKey key → any_b (details_under key details) ≡ true → one_if_any (details_under key before) + batches_with key parts ≤ 1

  -- a part's settings agree with the whole's under the keys of its details
  agrees : (before : List (List ℕ)) (s : Sent) (rest : List Sent) → IsPart whole s
      → before ++ (details_sent s ++ joined_details rest) ≡ details
      → Few before (s ∷ rest)
      → All (Agree (call_settings s.call) settings) (details_sent s)
  unfolding batches_with
  agrees before s rest p e few =
      rw (← p.state, ← p.year, ← p.codes, ← e)
      (part-agrees (submitting_state whole.call.batch) whole.call.year whole.call.locals before (details_sent s) (joined_details rest)
      (records s.call s.outcome p.is p.carried)
      (λ key k b. let n = few key k (rw (← e) b) in let m = joined_few key rest in omega arith))

  -- from the master that the batches gone before left, those to come leave what the whole's settings make of their details
  record Reached (master : Master) (parts : List Sent) : Type 0 where
    master_is : last_master master parts ≡ counted (final_rows settings master.rows (joined_details parts))
    verdicts_are : joined_verdicts parts ≡ verdicts_on settings master.rows (joined_details parts)

  walk : (before : List (List ℕ)) (master : Master) (parts : List Sent) → EachSent (IsPart whole) parts → OneBehindTheOther master parts
      → master.count ≡ length master.rows → before ++ joined_details parts ≡ details → Few before parts
      → Reached master parts
  unfolding final_rows verdicts_on joined_details joined_verdicts batches_with
  walk before master [] a b n e few =
      record { master_is = ap (λ (k : ℕ). record { count = k; rows = master.rows }) n; verdicts_are = refl }
  walk before master (s ∷ rest) a b n e few =
      let p : IsPart whole s = a.0 in
      let own : List (List ℕ) = details_sent s in
      let behind : List (List ℕ) = joined_details rest in
      let agree : All (Agree (call_settings s.call) settings) own = agrees before s rest p e few in
      let found : rows_found s ≡ master.rows = ap (λ (z : Master). z.rows) b.0 in
      let left : master_left s ≡ counted (final_rows settings master.rows own) =
      master_by s p.is p.carried settings agree ∙ ap (λ (z : List (List ℕ)). counted (final_rows settings z own)) found in
      let said : verdicts_sent s ≡ verdicts_on settings master.rows own =
      verdicts_by s p.is p.carried settings agree ∙ ap (λ (z : List (List ℕ)). verdicts_on settings z own) found in
      let rows_left : (master_left s).rows ≡ final_rows settings master.rows own = ap (λ (z : Master). z.rows) left in
      let on : Reached (master_left s) rest =
      walk (before ++ own) (master_left s) rest a.1 b.1 (ap (λ (z : Master). z.count) left ∙ sym (ap length rows_left))
      (append_assoc before own behind ∙ e) (λ key k h. fewer key (few key k h)) in
      record {
        master_is =
            on.master_is
            ∙ ap (λ (z : List (List ℕ)). counted (final_rows settings z behind)) rows_left
            ∙ ap counted (sym (final_append settings master.rows own behind));
        verdicts_are =
            verdicts_more s rest
            ∙ ap₂ (λ (x y : List Judgement). x ++ y) said
            (on.verdicts_are ∙ ap (λ (z : List (List ℕ)). verdicts_on settings z behind) rows_left)
            ∙ sym (verdicts_append settings master.rows own behind);
      }
    where
      fewer : (key : List ℕ)
          → one_if_any (details_under key before) + (one_if_any (details_under key (details_sent s)) + batches_with key rest) ≤ 1
          → one_if_any (details_under key (before ++ details_sent s)) + batches_with key rest ≤ 1
      fewer key h =
          rw (under_append key before (details_sent s))
          (omega (arith, one_append (details_under key before) (details_under key (details_sent s))))

-- ---- the claim

pub several : Several
unfolding details_under
several whole parts iw ip tw tp a b c o e f =
    let rows : List (List ℕ) = rows_found whole in
    let own : List (List ℕ) = details_sent whole in
    let w : Reached whole own (master_found whole) parts =
    walk whole own [] (master_found whole) parts (all_parts whole parts ip tp a b c) o
    (sym (length-blocks 200 whole.call.rows whole.call.master)) e (λ key k h. let n = f key k (rw e h) in omega arith) in
    record {
      master =
          w.master_is
          ∙ ap (λ (z : List (List ℕ)). counted (final_rows (call_settings whole.call) rows z)) e
          ∙ sym (own_master whole iw tw);
      verdicts =
          w.verdicts_are
          ∙ ap (verdicts_on (call_settings whole.call) rows) e
          ∙ sym (verdicts_read whole.call whole.outcome iw tw);
    }
