-- Premises of `Several` that are needed: the examples' calls and what they leave are computed. Assumes nothing.
use Prim.Native.Nat.{ℕ, ◌+◌, ◌≤◌}
use mathlib.Core.Path.{◌≡◌, refl, sym, ap, ◌∙◌}
use mathlib.Core.Bool.{Bool, true, false, cond, false≢true}
use mathlib.Core.List.{List, [], ◌∷◌}
use native.Mathlib.Omega.{arith}
use lib.ListN.{length}
use Rattle.answers.specs.Answer.{outcome_by}
use Rattle.text.specs.Characters.{B, is_letter, is_digit}
use Rattle.text.specs.Fields.{is_blank, is_zero, all_digits, are_digits, number, digit_field, same_bytes, is_one_of}
use Rattle.text.specs.Blocks.{blocks, joined, over}
use Rattle.text.specs.ByteOrder.{order_of, is_less, below_first, rising}
use Rattle.text.proofs.BoolLaws.{or_left, or_right}
use Rattle.layout.specs.States.{state_table, is_state}
use Rattle.layout.specs.Ssn.{wrong_ssn}
use Rattle.layout.specs.Name.{is_name_byte, is_name_rest, is_name, has_letter}
use Rattle.dates.specs.Calendar.{is_leap, days_in, is_day, is_date}
use Rattle.layout.specs.ProcessYear.{in_window}
use Rattle.layout.specs.Locals.{codes_of_list, is_listed, is_local_list}
use Rattle.layout.specs.Key.{is_case_type, is_sound_key, is_own_key}
use Rattle.layout.specs.Record.{is_type, is_known_type}
use Rattle.layout.specs.Batch.{details_of, control_of, submitting_state}
use Rattle.layout.specs.Codes.{codes_from, codes_of_number, codes_text, six_lowest}
use Rattle.exclusionsets.specs.Exclusions.{exclusion_names, is_separator, words_from, read_onto, exclusions_of}
use Rattle.casemaster.specs.Row.{is_balance_zero, is_live, is_deleted, are_fields_sound, is_end_sound, is_sound_row}
use Rattle.casemaster.specs.Rows.{row_with, with_row}
use Rattle.casemaster.specs.Master.{keys_of, are_sound_rows}
use Rattle.casemaster.specs.Refusals.{refusal3, refusal4, master_refusal}
use Rattle.judging.specs.Errors.{error01, error02, error03, error04, error05, error06, error07, error08, is_live_row, error09, is_local_code, error10, error11, error12, error13, wrong_part, error14, error15, error16, is_other_name, is_given, error17, error18, is_wrong_key, holds09, holds17, errors}
use Rattle.judging.specs.Warnings.{warning51, is_renamed, warning52, warnings}
use Rattle.judging.specs.Names.{gives_name, names_given}
use Rattle.onecase.specs.Verdict.{Judgement, is_accepted, codes, judgement, is_rejected, is_warned}
use Rattle.onecase.specs.Changes.{exclusion_byte, added_local_code, fresh_row, recertified, renamed, deleted, relocated, amended, paid}
use Rattle.onecase.specs.Machine.{changed, added, applied, next}
use Rattle.onecase.specs.Table.{base, of_name, of_year, live_row, ohio}
use Rattle.turns.specs.Turns.{after_detail, verdict_on, final_rows, verdicts_on}
use Rattle.turns.specs.Under.{is_under, details_under}
use Rattle.turns.specs.Adds.{adds_without_row}
use Rattle.batchfile.specs.Totals.{has_ctl, has_state, has_totals, count_of, amount_in, amount_of, are_counts_right, are_amounts_right}
use Rattle.batchfile.specs.Refusals.{refusal5, refusal6, refusal20, refusal21, refusal7, refusal8, batch_refusal}
use Rattle.batchfile.specs.Stated.{totals_record}
use Rattle.rejectfile.specs.Rejects.{numbers, reject_record, reject_records}
use Rattle.rejectfile.specs.Counts.{how_many, counts_of, control_record}
use Rattle.batch.specs.Refusals.{refusal1, refusal2, refusal9, refusal10, refusal11, space_refusal, apply_refusal}
use Rattle.batch.specs.Apply.{apply_run, apply_outcome}
use Rattle.effects.specs.TwoBatches.{read_verdicts}
use Rattle.effects.specs.Several.{Sent, WasCarriedOut, SameState, EachSent, Master, master_found, master_left, OneBehindTheOther, details_sent, joined_details, verdicts_sent, joined_verdicts, any_b, any_record, batches_with, NoBInTwo}
use Rattle.premises.specs.Premises.{batch_of, call_with, sent, sent_to, deletes, renames, together, deletes_alone, renames_alone, adds_twice, adds, adds_again, adds_nowhere, amends, alabama, pays, relocates, amends_nothing, PremisesNeeded}

-- ---- the proviso where it holds

-- a single batch is one at most
few_alone : (s : Sent) → NoBInTwo (s ∷ [])
unfolding batches_with
few_alone s key k b = go (any_record (details_under key (details_sent s)))
  where
    go : (t : Bool) → cond t 1 0 + 0 ≤ 1
    go true = omega arith
    go false = omega arith

-- without a B record no key has one
no_b_under : (key : List ℕ) (recs : List (List ℕ)) → any_b recs ≡ false → any_b (details_under key recs) ≡ false
unfolding any_b details_under
no_b_under key [] e = refl
no_b_under key (rec ∷ recs) e =
    go (is_under key rec) (or_left (is_type B rec) (any_b recs) e) (no_b_under key recs (or_right (is_type B rec) (any_b recs) e))
  where
    go : (t : Bool) → is_type B rec ≡ false → any_b (details_under key recs) ≡ false
        → any_b (cond t (rec ∷ details_under key recs) (details_under key recs)) ≡ false
    go true b h = rw b h
    go false b h = h

few_without : (parts : List Sent) → any_b (joined_details parts) ≡ false → NoBInTwo parts
few_without parts e key k b = absurd (false≢true (sym (no_b_under key (joined_details parts) e) ∙ b))

-- ---- the conclusion where it fails

-- how many codes the first verdict has
abbrev first_verdict_codes : List Judgement → ℕ
first_verdict_codes [] = 0
first_verdict_codes (v ∷ vs) = length v.codes

abbrev state_of : Sent → List ℕ
state_of s = submitting_state s.call.batch

-- what the calls leave, so far as it is wanted: two batches for one
record Computed : Type 0 where
  together_done : WasCarriedOut together
  apart_done : EachSent WasCarriedOut (deletes_alone ∷ renames_alone ∷ [])
  together_state : state_of together ≡ ohio
  deletes_state : state_of deletes_alone ≡ ohio
  renames_state : state_of renames_alone ≡ ohio
  apart_masters : OneBehindTheOther (master_found together) (deletes_alone ∷ renames_alone ∷ [])
  apart_details : joined_details (deletes_alone ∷ renames_alone ∷ []) ≡ details_sent together
  apart_codes : first_verdict_codes (joined_verdicts (deletes_alone ∷ renames_alone ∷ [])) ≡ 1
  together-codes : first_verdict_codes (verdicts_sent together) ≡ 0
  adds_done : EachSent WasCarriedOut (adds ∷ adds_again ∷ [])
  twice_state : state_of adds_twice ≡ ohio
  adds_state : state_of adds ≡ ohio
  again_state : state_of adds_again ≡ ohio
  adds_masters : OneBehindTheOther (master_found adds_twice) (adds ∷ adds_again ∷ [])
  adds_details : joined_details (adds ∷ adds_again ∷ []) ≡ details_sent adds_twice
  adds_without_b : any_b (joined_details (adds ∷ adds_again ∷ [])) ≡ false
  adds_count : (master_left adds_again).count ≡ 1
  twice_count : (master_left adds_twice).count ≡ 0
  -- one batch for one
  nowhere_master : master_found adds_nowhere ≡ master_found adds
  nowhere_state : state_of adds_nowhere ≡ ohio
  nowhere_details : joined_details (adds_nowhere ∷ []) ≡ details_sent adds
  nowhere_count : (master_left adds_nowhere).count ≡ 0
  somewhere_count : (master_left adds).count ≡ 1
  ohio_done : WasCarriedOut (amends ohio)
  alabama_done : WasCarriedOut (amends alabama)
  amends_details : joined_details (amends alabama ∷ []) ≡ details_sent (amends ohio)
  alabama-codes : first_verdict_codes (joined_verdicts (amends alabama ∷ [])) ≡ 1
  ohio-codes : first_verdict_codes (verdicts_sent (amends ohio)) ≡ 0
  paid_done : WasCarriedOut (pays 2008)
  unpaid_done : WasCarriedOut (pays 2007)
  paid_state : state_of (pays 2008) ≡ ohio
  unpaid_state : state_of (pays 2007) ≡ ohio
  pays_details : joined_details (pays 2007 ∷ []) ≡ details_sent (pays 2008)
  unpaid_codes : first_verdict_codes (joined_verdicts (pays 2007 ∷ [])) ≡ 1
  paid-codes : first_verdict_codes (verdicts_sent (pays 2008)) ≡ 0
  listed_done : WasCarriedOut (relocates (digit_field 3 1))
  unlisted_done : WasCarriedOut (relocates [])
  listed_state : state_of (relocates (digit_field 3 1)) ≡ ohio
  unlisted_state : state_of (relocates []) ≡ ohio
  relocates_details : joined_details (relocates [] ∷ []) ≡ details_sent (relocates (digit_field 3 1))
  unlisted_codes : first_verdict_codes (joined_verdicts (relocates [] ∷ [])) ≡ 1
  listed-codes : first_verdict_codes (verdicts_sent (relocates (digit_field 3 1))) ≡ 0
  nothing_done : WasCarriedOut amends_nothing
  ohio_state : state_of (amends ohio) ≡ ohio
  nothing_state : state_of amends_nothing ≡ ohio
  nothing_details : joined_details (amends_nothing ∷ []) ≡ details_sent (amends ohio)
  nothing_codes : first_verdict_codes (joined_verdicts (amends_nothing ∷ [])) ≡ 1

computed : Computed
unfolding
    is_letter is_digit is_blank is_zero all_digits are_digits number digit_field same_bytes is_one_of blocks joined over order_of is_less below_first rising
    state_table is_state wrong_ssn is_name_byte is_name_rest is_name has_letter is_leap days_in is_day is_date in_window codes_of_list is_listed is_local_list
    is_case_type is_sound_key is_own_key is_known_type details_of control_of codes_from codes_of_number codes_text six_lowest exclusion_names is_separator words_from
    read_onto exclusions_of is_balance_zero is_live is_deleted are_fields_sound is_end_sound is_sound_row row_with with_row keys_of are_sound_rows
    refusal3 refusal4 master_refusal error01 error02 error03 error04 error05 error06 error07 error08 is_live_row error09 is_local_code error10 error11
    error12 error13 wrong_part error14 error15 error16 is_other_name is_given error17 error18 is_wrong_key holds09 holds17 errors
    warning51 is_renamed warning52 warnings gives_name names_given is_accepted codes judgement is_rejected is_warned
    exclusion_byte added_local_code fresh_row recertified renamed deleted relocated amended paid changed added applied next
    base of_name of_year live_row after_detail verdict_on final_rows verdicts_on details_under adds_without_row
    has_ctl has_state has_totals count_of amount_in amount_of are_counts_right are_amounts_right refusal5 refusal6 refusal20 refusal21 refusal7 refusal8
    batch_refusal totals_record numbers reject_record reject_records how_many counts_of control_record
    refusal1 refusal2 refusal9 refusal10 refusal11 space_refusal apply_refusal apply_run outcome_by apply_outcome read_verdicts
    joined_details joined_verdicts any_b batch_of call_with sent sent_to deletes renames together deletes_alone renames_alone
    adds_twice adds adds_again adds_nowhere amends pays relocates amends_nothing
computed =
    record {
      together_done = refl;
      apart_done = (refl, (refl, tt));
      together_state = refl;
      deletes_state = refl;
      renames_state = refl;
      apart_masters = (refl, (refl, tt));
      apart_details = refl;
      apart_codes = refl;
      together-codes = refl;
      adds_done = (refl, (refl, tt));
      twice_state = refl;
      adds_state = refl;
      again_state = refl;
      adds_masters = (refl, (refl, tt));
      adds_details = refl;
      adds_without_b = refl;
      adds_count = refl;
      twice_count = refl;
      nowhere_master = refl;
      nowhere_state = refl;
      nowhere_details = refl;
      nowhere_count = refl;
      somewhere_count = refl;
      ohio_done = refl;
      alabama_done = refl;
      amends_details = refl;
      alabama-codes = refl;
      ohio-codes = refl;
      paid_done = refl;
      unpaid_done = refl;
      paid_state = refl;
      unpaid_state = refl;
      pays_details = refl;
      unpaid_codes = refl;
      paid-codes = refl;
      listed_done = refl;
      unlisted_done = refl;
      listed_state = refl;
      unlisted_state = refl;
      relocates_details = refl;
      unlisted_codes = refl;
      listed-codes = refl;
      nothing_done = refl;
      ohio_state = refl;
      nothing_state = refl;
      nothing_details = refl;
      nothing_codes = refl;
    }

-- two lists of verdicts, the first of which have a code and none
codes_differ : (xs ys : List Judgement) → first_verdict_codes xs ≡ 1 → first_verdict_codes ys ≡ 0 → xs ≡ ys → ⊥
codes_differ xs ys a b e = let c = ap first_verdict_codes e in omega arith

counts_differ : (m n : Master) (a b : ℕ) → m.count ≡ a → n.count ≡ b → (a ≡ b → ⊥) → m ≡ n → ⊥
counts_differ m n a b ea eb d e = d (sym ea ∙ ap (λ (z : Master). z.count) e ∙ eb)

same_state_lem : (s t : Sent) → state_of s ≡ ohio → state_of t ≡ ohio → SameState s t
same_state_lem s t a b = a ∙ sym b

-- ---- these premises are needed

pub premises_needed : PremisesNeeded
unfolding sent call_with sent_to together deletes_alone renames_alone adds_twice adds adds_again adds_nowhere amends pays relocates amends_nothing
premises_needed =
    record {
      with_all = λ f. f;
      proviso_needed = λ f.
          codes_differ _ _ computed.apart_codes computed.together-codes
          (f together (deletes_alone ∷ renames_alone ∷ []) (record { is = refl }) (record { is = refl }, (record { is = refl }, tt))
          computed.together_done computed.apart_done (same_state_lem together deletes_alone computed.together_state computed.deletes_state, (same_state_lem together renames_alone computed.together_state computed.renames_state, tt)) (refl, (refl, tt)) (refl, (refl, tt)) computed.apart_masters
          computed.apart_details tt).verdicts;
      whole_needed = λ f.
          counts_differ _ _ 1 0 computed.adds_count computed.twice_count (λ z. omega arith)
          (f adds_twice (adds ∷ adds_again ∷ []) (record { is = refl }) (record { is = refl }, (record { is = refl }, tt))
          tt computed.adds_done (same_state_lem adds_twice adds computed.twice_state computed.adds_state, (same_state_lem adds_twice adds_again computed.twice_state computed.again_state, tt)) (refl, (refl, tt)) (refl, (refl, tt)) computed.adds_masters
          computed.adds_details (few_without (adds ∷ adds_again ∷ []) computed.adds_without_b)).master;
      parts_needed = λ f.
          counts_differ _ _ 0 1 computed.nowhere_count computed.somewhere_count (λ z. omega arith)
          (f adds (adds_nowhere ∷ []) (record { is = refl }) (record { is = refl }, tt)
          computed.adds_done.0 tt (same_state_lem adds adds_nowhere computed.adds_state computed.nowhere_state, tt) (refl, tt) (refl, tt) (computed.nowhere_master, tt)
          computed.nowhere_details (few_alone adds_nowhere)).master;
      state_needed = λ f.
          codes_differ _ _ computed.alabama-codes computed.ohio-codes
          (f (amends ohio) (amends alabama ∷ []) (record { is = refl }) (record { is = refl }, tt) computed.ohio_done (computed.alabama_done, tt)
          tt (refl, tt) (refl, tt) (refl, tt) computed.amends_details (few_alone (amends alabama))).verdicts;
      year_needed = λ f.
          codes_differ _ _ computed.unpaid_codes computed.paid-codes
          (f (pays 2008) (pays 2007 ∷ []) (record { is = refl }) (record { is = refl }, tt) computed.paid_done (computed.unpaid_done, tt)
          (same_state_lem (pays 2008) (pays 2007) computed.paid_state computed.unpaid_state, tt) tt (refl, tt) (refl, tt) computed.pays_details (few_alone (pays 2007))).verdicts;
      codes_needed = λ f.
          codes_differ _ _ computed.unlisted_codes computed.listed-codes
          (f (relocates (digit_field 3 1)) (relocates [] ∷ []) (record { is = refl }) (record { is = refl }, tt) computed.listed_done
          (computed.unlisted_done, tt) (same_state_lem (relocates (digit_field 3 1)) (relocates []) computed.listed_state computed.unlisted_state, tt) (refl, tt) tt (refl, tt) computed.relocates_details
          (few_alone (relocates []))).verdicts;
      masters_needed = λ f.
          codes_differ _ _ computed.nothing_codes computed.ohio-codes
          (f (amends ohio) (amends_nothing ∷ []) (record { is = refl }) (record { is = refl }, tt) computed.ohio_done (computed.nothing_done, tt)
          (same_state_lem (amends ohio) amends_nothing computed.ohio_state computed.nothing_state, tt) (refl, tt) (refl, tt) tt computed.nothing_details (few_alone amends_nothing)).verdicts;
    }
