-- Where refusal 29 doesn't hold the records written lead to the wanted row: each finds its field as it was and leaves it as wanted.
-- Assumes nothing.
use Prim.Native.Nat.{ℕ, ◌+◌, ◌-◌, ◌≤◌}
use mathlib.Core.Path.{◌≡◌, refl, sym, ap, ◌∙◌}
use mathlib.Core.List.{List, [], ◌∷◌, ◌++◌}
use mathlib.Core.Bool.{Bool, true, false, not, cond, ◌&&◌, ◌||◌}
use mathlib.Core.Option.{some}
use native.Mathlib.Omega.{arith}
use borrow.Author.Tests.{not-false}
use lib.Dec.{eqb, lit≤}
use lib.ListN.{length, replicate}
use lib.Seq.{take_all}
use Rattle.text.specs.Characters.{space, zero_digit, A, C, D, L, M, R}
use Rattle.text.specs.Fields.{columns, placed, every, is_blank, is_zero, are_digits, same_bytes}
use Rattle.text.proofs.BoolLaws.{or_left, or_right, and_second}
use Rattle.text.proofs.FieldsLaws.{columns_here}
use Rattle.text.proofs.SameLaws.{same_self, eq_same, same_eq}
use Rattle.text.proofs.ColumnsLaws.{Put, put, put_unless, written, length-written, columns-written, is_free, columns_free, Fits, AllFit, fits-columns}
use Rattle.exclusionsets.specs.Exclusions.{exclusions_of}
use Rattle.layout.specs.ChartA1.{local_code, case_id, arrearage, exclusions}
use Rattle.layout.specs.Record.{is_type}
use Rattle.casemaster.specs.Row.{row_key, row_state, row_local_code, row_case_id, row_arrearage, row_exclusions, row_cents, is_live}
use Rattle.casemaster.proofs.SoundLaws.{sound_columns}
use Rattle.judging.specs.Setting.{Setting, setting_of}
use Rattle.onecase.specs.Verdict.{is_accepted}
use Rattle.onecase.specs.Changes.{zeros}
use Rattle.onecase.specs.Machine.{changed}
use Rattle.onecase.proofs.JudgementLaws.{none_accepted}
use Rattle.onecase.proofs.ChangesLaws
use Rattle.turns.specs.Under.{run_row, run_verdicts}
use Rattle.exclusionsets.specs.ExclusionText.{is_widened, exclusion_field}
use Rattle.caserecords.specs.Differences.{is_other, is_other_case_id, is_other_local_code, is_other_set, is_other_balance, is_other_elsewhere, is_zero_or_listed, set_of, is_barred, refusal29}
use Rattle.caserecords.specs.Records.{head_of, case_id_record, local_code_record, exclusion_record, arrearage_record, record_if, records_to}
use Rattle.exclusionsets.proofs.ExclusionTextLaws.{field-length, field-read}
use Rattle.leading.specs.Leads.{is_correction, has_no_error, Pair}
use Rattle.onecase.proofs.JudgedLaws.{rejected_is}
use Rattle.onecase.proofs.CorrectionLaws.{next-changed, changed_c, changed_l, changed_m, changed_r, code-sent, set-stored}
use Rattle.onecase.proofs.OwnRecordLaws.{Sent, IsKind, OwnFieldRight, no_error, kind_c, kind_l, kind_r, kind_m, own_c, own_l, own_r, own_m}
use Rattle.leading.proofs.SentLaws.{head_wide, sent}
use Rattle.leading.proofs.RowPartsLaws.{same_row, row_width_lem, one_byte, status_of, status_column, live_column, digits_not_blank, zero_is, placed_own}

-- ---- records that go from one row to another without an error

module _ (setting : Setting) where
  abbrev pub Goes : List ℕ → List (List ℕ) → List ℕ → Type 0
  Goes r [] end = r ≡ end
  Goes r (rec ∷ recs) end = (is_type A rec ≡ false) × (is_accepted setting (some r) rec ≡ true) × Goes (changed rec r) recs end

  goes_append : (a : List ℕ) (xs : List (List ℕ)) (b : List ℕ) (ys : List (List ℕ)) (c : List ℕ) → Goes a xs b → Goes b ys c → Goes a (xs ++ ys) c
  goes_append a [] b ys c e h = rw e h
  goes_append a (x ∷ xs) b ys c g h = (g.0, g.1, goes_append (changed x a) xs b ys c g.2 h)

  pub goes_verdicts : (r : List ℕ) (recs : List (List ℕ)) (end : List ℕ) → Goes r recs end
      → every has_no_error (run_verdicts setting (some r) recs) ≡ true
  unfolding run_verdicts
  goes_verdicts r [] end g = refl
  goes_verdicts r (rec ∷ recs) end g =
      rw (rejected_is setting (some r) rec, g.1, next-changed setting r rec g.0 g.1) (goes_verdicts (changed rec r) recs end g.2)

  pub goes_ends : (r : List ℕ) (recs : List (List ℕ)) (end : List ℕ) → Goes r recs end → run_row setting (some r) recs ≡ some end
  unfolding run_row
  goes_ends r [] end e = ap some e
  goes_ends r (rec ∷ recs) end g = rw (next-changed setting r rec g.0 g.1) (goes_ends (changed rec r) recs end g.2)

  -- a record that is written or not
  goes_if : (b : Bool) (rec r new : List ℕ) → is_type A rec ≡ false → (b ≡ true → is_accepted setting (some r) rec ≡ true)
      → (b ≡ true → changed rec r ≡ new) → (b ≡ false → r ≡ new) → Goes r (record_if b rec) new
  goes_if true rec r new a t e k = (a, t refl, e refl)
  goes_if false rec r new a t e k = k refl

-- ---- a record of a type

-- a record of a type is of it alone
sent_type : (kind x : ℕ) (row rec : List ℕ) (b : Bool) → Sent kind row rec → eqb kind x ≡ b → is_type x rec ≡ b
sent_type kind x row rec b s e = rw s.type_is e

sent_correction : (kind : ℕ) (row rec : List ℕ) → Sent kind row rec → (eqb kind C || eqb kind L || eqb kind R || eqb kind M) ≡ true
    → is_correction (row_key row) rec ≡ true
unfolding is_correction
sent_correction kind row rec s t = rw (s.wide, s.key_is, eq_same (row_key row) (row_key row) refl, s.type_is) t

module _ (row wanted list : List ℕ) (p : Pair row wanted) where
  -- ---- the records written

  id_fits : Fits 245 (put 15 29 (row_case_id wanted))
  id_fits = fits-columns 245 15 29 200 16 30 false wanted p.wanted_wide refl

  code_fits : Fits 245 (put 3 5 (row_local_code wanted))
  code_fits = fits-columns 245 3 5 200 13 15 false wanted p.wanted_wide refl

  field_fits : Fits 245 (put 188 227 (exclusion_field (set_of wanted)))
  field_fits = record { low = lit≤ tt; wide = omega (arith, field-length (set_of wanted) p.wanted_byte); high = lit≤ tt }

  amount-fits : Fits 245 (put 65 72 (row_arrearage wanted))
  amount-fits = fits-columns 245 65 72 200 66 73 false wanted p.wanted_wide refl

  sent_c : Sent C row (case_id_record row wanted)
  unfolding case_id_record
  sent_c = sent C 15 29 (row_case_id wanted) row p.wide id_fits refl

  sent_l : Sent L row (local_code_record row wanted)
  unfolding local_code_record
  sent_l = sent L 3 5 (row_local_code wanted) row p.wide code_fits refl

  sent_r : Sent R row (exclusion_record row wanted)
  unfolding exclusion_record
  sent_r = sent R 188 227 (exclusion_field (set_of wanted)) row p.wide field_fits refl

  sent_m : Sent M row (arrearage_record row wanted)
  unfolding arrearage_record
  sent_m = sent M 65 72 (row_arrearage wanted) row p.wide amount-fits refl

  -- the field of a record
  field_there : (kind first last : ℕ) (f : List ℕ) → Fits 245 (put first last f) → columns first last (placed first last f (head_of kind row)) ≡ f
  field_there kind first last f t =
      let w = head_wide kind row p.wide in
      columns_here first last f (head_of kind row) (record { low = t.low; ordered = omega (arith, t.wide); high = omega (arith, t.high) }) t.wide

  id_there : case_id (case_id_record row wanted) ≡ row_case_id wanted
  unfolding case_id_record
  id_there = field_there C 15 29 (row_case_id wanted) id_fits

  code_there : local_code (local_code_record row wanted) ≡ row_local_code wanted
  unfolding local_code_record
  code_there = field_there L 3 5 (row_local_code wanted) code_fits

  field_there_r : exclusions (exclusion_record row wanted) ≡ exclusion_field (set_of wanted)
  unfolding exclusion_record
  field_there_r = field_there R 188 227 (exclusion_field (set_of wanted)) field_fits

  amount_there : arrearage (arrearage_record row wanted) ≡ row_arrearage wanted
  unfolding arrearage_record
  amount_there = field_there M 65 72 (row_arrearage wanted) amount-fits

  -- ---- their own fields are right

  right_c : is_blank (row_case_id wanted) ≡ false → OwnFieldRight list (case_id_record row wanted)
  right_c t = own_c list row (case_id_record row wanted) sent_c (rw id_there t)

  code_digits : is_blank (row_local_code wanted) ≡ false
  code_digits =
      digits_not_blank (row_local_code wanted)
      (omega (arith, row_width_lem wanted 13 15 p.wanted_wide (lit≤ tt) (lit≤ tt) (lit≤ tt))) (sound_columns wanted p.wanted_sound).local_digits

  right_l : is_zero_or_listed list (row_local_code wanted) ≡ true → OwnFieldRight list (local_code_record row wanted)
  unfolding is_zero_or_listed
  right_l t = own_l list row (local_code_record row wanted) sent_l (code-sent list (local_code_record row wanted) (rw code_there t))

  right_r : is_widened (set_of wanted) ≡ true → OwnFieldRight list (exclusion_record row wanted)
  right_r t =
      own_r list row (exclusion_record row wanted) sent_r (rw (field_there_r, field-read (set_of wanted) p.wanted_byte t))

  right_m : OwnFieldRight list (arrearage_record row wanted)
  unfolding are_digits
  right_m =
      let w = row_width_lem wanted 66 73 p.wanted_wide (lit≤ tt) (lit≤ tt) (lit≤ tt) in
      own_m list row (arrearage_record row wanted) sent_m (rw (amount_there, w, (sound_columns wanted p.wanted_sound).arrearage_digits))

  -- ---- what they write

  abbrev id_put : Put
  id_put = put 16 30 (row_case_id wanted)

  abbrev code_put : Put
  code_put = put 13 15 (row_local_code wanted)

  abbrev set_put : Put
  set_put = put 195 195 (row_exclusions wanted)

  set_byte : set_of wanted ∷ [] ≡ row_exclusions wanted
  set_byte = sym (one_byte (row_exclusions wanted) (row_width_lem wanted 195 195 p.wanted_wide (lit≤ tt) (lit≤ tt) (lit≤ tt)))

  written_c : (r : List ℕ) → changed (case_id_record row wanted) r ≡ written (id_put ∷ []) r
  written_c r =
      changed_c (case_id_record row wanted) r (sent_type C C row (case_id_record row wanted) true sent_c refl)
      ∙ ChangesLaws.reidentified_is (case_id_record row wanted) r
      ∙ rw id_there

  written_l : (r : List ℕ) → changed (local_code_record row wanted) r ≡ written (code_put ∷ []) r
  written_l r =
      changed_l (local_code_record row wanted) r (sent_type L L row (local_code_record row wanted) true sent_l refl)
      ∙ ChangesLaws.relocated_is (local_code_record row wanted) r
      ∙ rw (code_there, code_digits)

  written_r : is_widened (set_of wanted) ≡ true → (r : List ℕ) → changed (exclusion_record row wanted) r ≡ written (set_put ∷ []) r
  written_r t r =
      changed_r (exclusion_record row wanted) r (sent_type R R row (exclusion_record row wanted) true sent_r refl)
      ∙ ChangesLaws.excluded_is (exclusion_record row wanted) r
      ∙ rw (set-stored (exclusion_record row wanted) (set_of wanted) (ap exclusions_of field_there_r ∙ field-read (set_of wanted) p.wanted_byte t), set_byte)

  -- M, as fields
  abbrev amount_puts : List Put
  amount_puts = put_unless (not (is_zero (row_arrearage wanted))) 196 196 (D ∷ []) ∷ put 66 73 (row_arrearage wanted) ∷ put 197 198 (zeros 2) ∷ []

  written_m : (r : List ℕ) → changed (arrearage_record row wanted) r ≡ written amount_puts r
  written_m r =
      changed_m (arrearage_record row wanted) r (sent_type M M row (arrearage_record row wanted) true sent_m refl)
      ∙ ChangesLaws.amended_is (arrearage_record row wanted) r
      ∙ rw amount_there

  -- ---- the rows between

  id_row_fits : Fits 200 id_put
  id_row_fits = fits-columns 200 16 30 200 16 30 false wanted p.wanted_wide refl

  code-row-fits : Fits 200 code_put
  code-row-fits = fits-columns 200 13 15 200 13 15 false wanted p.wanted_wide refl

  set-row-fits : Fits 200 set_put
  set-row-fits = fits-columns 200 195 195 200 195 195 false wanted p.wanted_wide refl

  fit1 : AllFit 200 (id_put ∷ [])
  fit1 = (id_row_fits, tt)

  fit2 : AllFit 200 (code_put ∷ id_put ∷ [])
  fit2 = (code-row-fits, fit1)

  fit3 : AllFit 200 (set_put ∷ code_put ∷ id_put ∷ [])
  fit3 = (set-row-fits, fit2)

  abbrev row1 : List ℕ
  row1 = written (id_put ∷ []) row

  abbrev row2 : List ℕ
  row2 = written (code_put ∷ id_put ∷ []) row

  abbrev row3 : List ℕ
  row3 = written (set_put ∷ code_put ∷ id_put ∷ []) row

  -- a row that is live and has the name
  record LiveWithName (r : List ℕ) : Type 0 where
    live : is_live r ≡ true
    name : columns 31 34 r ≡ columns 31 34 row

  live_with_name : (ps : List Put) → AllFit 200 ps → is_free 31 34 ps ≡ true → is_free 196 196 ps ≡ true → is_live row ≡ true → LiveWithName (written ps row)
  unfolding is_live
  live_with_name ps f a b v =
      record {
        live = rw (columns_free 200 196 196 (lit≤ tt) (lit≤ tt) ps row b f p.wide) v;
        name = columns_free 200 31 34 (lit≤ tt) (lit≤ tt) ps row a f p.wide;
      }

  module _ (year : ℕ) (names : List (List ℕ)) where
    abbrev row_setting : Setting
    row_setting = setting_of (row_state row) year list names

    accepted : (kind : ℕ) (rec r : List ℕ) → Sent kind row rec → IsKind kind → LiveWithName r → OwnFieldRight list rec
        → is_accepted row_setting (some r) rec ≡ true
    accepted kind rec r s d t o =
        none_accepted row_setting (some r) rec
        (no_error row_setting kind row rec r s d refl
        (sound_columns row p.sound).key_sound (sound_columns row p.sound).name_right t.live t.name o)

    -- ---- where nothing is barred

    module _ (f : is_barred row wanted list ≡ false) where
      abbrev bar_id : Bool
      bar_id = is_other_case_id row wanted && is_blank (row_case_id wanted)

      abbrev bar_code : Bool
      bar_code = is_other_local_code row wanted && not (is_zero_or_listed list (row_local_code wanted))

      abbrev bar_set : Bool
      bar_set = is_other_set row wanted && not (is_widened (set_of wanted))

      abbrev bar_balance : Bool
      bar_balance = is_other_balance row wanted && not (is_zero (row_cents wanted))

      no_5 : (not (is_live row) || is_other_elsewhere row wanted || bar_id || bar_code || bar_set) ≡ false
      unfolding is_barred
      no_5 = or_left (not (is_live row) || is_other_elsewhere row wanted || bar_id || bar_code || bar_set) bar_balance f

      no_balance : bar_balance ≡ false
      unfolding is_barred
      no_balance = or_right (not (is_live row) || is_other_elsewhere row wanted || bar_id || bar_code || bar_set) bar_balance f

      no_4 : (not (is_live row) || is_other_elsewhere row wanted || bar_id || bar_code) ≡ false
      no_4 = or_left (not (is_live row) || is_other_elsewhere row wanted || bar_id || bar_code) bar_set no_5

      no_set : bar_set ≡ false
      no_set = or_right (not (is_live row) || is_other_elsewhere row wanted || bar_id || bar_code) bar_set no_5

      no_3 : (not (is_live row) || is_other_elsewhere row wanted || bar_id) ≡ false
      no_3 = or_left (not (is_live row) || is_other_elsewhere row wanted || bar_id) bar_code no_4

      no_code : bar_code ≡ false
      no_code = or_right (not (is_live row) || is_other_elsewhere row wanted || bar_id) bar_code no_4

      no_2 : (not (is_live row) || is_other_elsewhere row wanted) ≡ false
      no_2 = or_left (not (is_live row) || is_other_elsewhere row wanted) bar_id no_3

      no_id : bar_id ≡ false
      no_id = or_right (not (is_live row) || is_other_elsewhere row wanted) bar_id no_3

      live : is_live row ≡ true
      live = not-false (is_live row) (or_left (not (is_live row)) (is_other_elsewhere row wanted) no_2)

      -- columns that don't differ
      same_there : (a z : ℕ) → is_other a z row wanted ≡ false → columns a z row ≡ columns a z wanted
      same_there a z t = same_eq (columns a z row) (columns a z wanted) (not-false (same_bytes (columns a z row) (columns a z wanted)) t)

      elsewhere : (is_other 1 12 row wanted || is_other 31 65 row wanted || is_other 74 194 row wanted || is_other 199 200 row wanted) ≡ false
      unfolding is_other_elsewhere
      elsewhere = or_right (not (is_live row)) (is_other_elsewhere row wanted) no_2

      elsewhere_3 : (is_other 1 12 row wanted || is_other 31 65 row wanted || is_other 74 194 row wanted) ≡ false
      elsewhere_3 = or_left (is_other 1 12 row wanted || is_other 31 65 row wanted || is_other 74 194 row wanted) (is_other 199 200 row wanted) elsewhere

      elsewhere_2 : (is_other 1 12 row wanted || is_other 31 65 row wanted) ≡ false
      elsewhere_2 = or_left (is_other 1 12 row wanted || is_other 31 65 row wanted) (is_other 74 194 row wanted) elsewhere_3

      same_key : columns 1 12 row ≡ columns 1 12 wanted
      same_key = same_there 1 12 (or_left (is_other 1 12 row wanted) (is_other 31 65 row wanted) elsewhere_2)

      same_names : columns 31 65 row ≡ columns 31 65 wanted
      same_names = same_there 31 65 (or_right (is_other 1 12 row wanted) (is_other 31 65 row wanted) elsewhere_2)

      same_middle : columns 74 194 row ≡ columns 74 194 wanted
      same_middle = same_there 74 194 (or_right (is_other 1 12 row wanted || is_other 31 65 row wanted) (is_other 74 194 row wanted) elsewhere_3)

      same_filler : columns 199 200 row ≡ columns 199 200 wanted
      same_filler = same_there 199 200 (or_right (is_other 1 12 row wanted || is_other 31 65 row wanted || is_other 74 194 row wanted) (is_other 199 200 row wanted) elsewhere)

      -- ---- each record in turn

      -- a field that doesn't differ
      stays : (a z : ℕ) (r : List ℕ) → 1 ≤ a → a ≤ z + 1 → columns a z r ≡ columns a z row → is_other a z row wanted ≡ false
          → r ≡ written (put a z (columns a z wanted) ∷ []) r
      stays a z r l o e t =
          sym (ap (λ (x : List ℕ). placed a z x r) (sym (e ∙ same_there a z t)) ∙ placed_own a z r l o)

      goes_c : Goes row_setting row (record_if (is_other_case_id row wanted) (case_id_record row wanted)) row1
      unfolding is_other_case_id
      goes_c =
          goes_if row_setting (is_other_case_id row wanted) (case_id_record row wanted) row row1
          (sent_type C A row (case_id_record row wanted) false sent_c refl)
          (λ t. accepted C (case_id_record row wanted) row sent_c kind_c (live_with_name [] tt refl refl live)
          (right_c (and_second (is_other_case_id row wanted) (is_blank (row_case_id wanted)) t no_id)))
          (λ t. written_c row)
          (λ t. stays 16 30 row (lit≤ tt) (lit≤ tt) refl t)

      goes_l : Goes row_setting row1 (record_if (is_other_local_code row wanted) (local_code_record row wanted)) row2
      unfolding is_other_local_code
      goes_l =
          goes_if row_setting (is_other_local_code row wanted) (local_code_record row wanted) row1 row2
          (sent_type L A row (local_code_record row wanted) false sent_l refl)
          (λ t. accepted L (local_code_record row wanted) row1 sent_l kind_l (live_with_name (id_put ∷ []) fit1 refl refl live)
          (right_l (not-false (is_zero_or_listed list (row_local_code wanted))
          (and_second (is_other_local_code row wanted) (not (is_zero_or_listed list (row_local_code wanted))) t no_code))))
          (λ t. written_l row1)
          (λ t. stays 13 15 row1 (lit≤ tt) (lit≤ tt) (columns_free 200 13 15 (lit≤ tt) (lit≤ tt) (id_put ∷ []) row refl fit1 p.wide) t)

      widened : is_other_set row wanted ≡ true → is_widened (set_of wanted) ≡ true
      widened t = not-false (is_widened (set_of wanted)) (and_second (is_other_set row wanted) (not (is_widened (set_of wanted))) t no_set)

      goes_r : Goes row_setting row2 (record_if (is_other_set row wanted) (exclusion_record row wanted)) row3
      unfolding is_other_set
      goes_r =
          goes_if row_setting (is_other_set row wanted) (exclusion_record row wanted) row2 row3
          (sent_type R A row (exclusion_record row wanted) false sent_r refl)
          (λ t. accepted R (exclusion_record row wanted) row2 sent_r kind_r (live_with_name (code_put ∷ id_put ∷ []) fit2 refl refl live) (right_r (widened t)))
          (λ t. written_r (widened t) row2)
          (λ t. stays 195 195 row2 (lit≤ tt) (lit≤ tt) (columns_free 200 195 195 (lit≤ tt) (lit≤ tt) (code_put ∷ id_put ∷ []) row refl fit2 p.wide) t)

      -- ---- the last one

      wanted_width : (a z : ℕ) → 1 ≤ a → a ≤ z + 1 → z ≤ 200 → length (columns a z wanted) ≡ z + 1 - a
      wanted_width a z l o h = row_width_lem wanted a z p.wanted_wide l o h

      whole_local : columns 1 3 (row_local_code wanted) ≡ row_local_code wanted
      whole_local = take_all 3 (row_local_code wanted) (omega (arith, wanted_width 13 15 (lit≤ tt) (lit≤ tt) (lit≤ tt)))

      whole_id : columns 1 15 (row_case_id wanted) ≡ row_case_id wanted
      whole_id = take_all 15 (row_case_id wanted) (omega (arith, wanted_width 16 30 (lit≤ tt) (lit≤ tt) (lit≤ tt)))

      whole_set : columns 1 1 (row_exclusions wanted) ≡ row_exclusions wanted
      whole_set = take_all 1 (row_exclusions wanted) (omega (arith, wanted_width 195 195 (lit≤ tt) (lit≤ tt) (lit≤ tt)))

      whole_amount : columns 1 8 (row_arrearage wanted) ≡ row_arrearage wanted
      whole_amount = take_all 8 (row_arrearage wanted) (omega (arith, wanted_width 66 73 (lit≤ tt) (lit≤ tt) (lit≤ tt)))

      -- no M: the balance is as wanted, and so is the status
      ends_same : is_other_balance row wanted ≡ false → row3 ≡ wanted
      unfolding is_other_balance
      ends_same t =
          let ps = set_put ∷ code_put ∷ id_put ∷ [] in
          let ea = same_there 66 73 (or_left (is_other 66 73 row wanted) (is_other 197 198 row wanted) t) in
          let ec = same_there 197 198 (or_right (is_other 66 73 row wanted) (is_other 197 198 row wanted) t) in
          let es = rw (ea, ec) at (status_column row p.wide p.sound) in
          same_row row3 wanted (length-written 200 ps row fit3 p.wide) p.wanted_wide
          record {
            key = columns-written 200 1 12 (lit≤ tt) (lit≤ tt) ps row refl fit3 p.wide ∙ same_key;
            local = columns-written 200 13 15 (lit≤ tt) (lit≤ tt) ps row refl fit3 p.wide ∙ whole_local;
            id = columns-written 200 16 30 (lit≤ tt) (lit≤ tt) ps row refl fit3 p.wide ∙ whole_id;
            names = columns-written 200 31 65 (lit≤ tt) (lit≤ tt) ps row refl fit3 p.wide ∙ same_names;
            arrearage = columns-written 200 66 73 (lit≤ tt) (lit≤ tt) ps row refl fit3 p.wide ∙ ea;
            middle = columns-written 200 74 194 (lit≤ tt) (lit≤ tt) ps row refl fit3 p.wide ∙ same_middle;
            set = columns-written 200 195 195 (lit≤ tt) (lit≤ tt) ps row refl fit3 p.wide ∙ whole_set;
            status =
                columns-written 200 196 196 (lit≤ tt) (lit≤ tt) ps row refl fit3 p.wide
                ∙ es ∙ sym (status_column wanted p.wanted_wide p.wanted_sound);
            cents = columns-written 200 197 198 (lit≤ tt) (lit≤ tt) ps row refl fit3 p.wide ∙ ec;
            filler = columns-written 200 199 200 (lit≤ tt) (lit≤ tt) ps row refl fit3 p.wide ∙ same_filler;
          }

      -- M: zero writes D, else the status stays a space
      status_there : (zero cents : Bool) → cents ≡ true → (s : List ℕ) → s ≡ space ∷ [] → cond (not zero) s (D ∷ []) ≡ status_of (zero && cents)
      status_there true cents t s e = rw t
      status_there false cents t s e = e

      ends_amended : is_other_balance row wanted ≡ true → written amount_puts row3 ≡ wanted
      ends_amended t =
          let z = not-false (is_zero (row_cents wanted)) (and_second (is_other_balance row wanted) (not (is_zero (row_cents wanted))) t no_balance) in
          let ps = put_unless (not (is_zero (row_arrearage wanted))) 196 196 (D ∷ []) ∷ put 66 73 (row_arrearage wanted) ∷ put 197 198 (zeros 2)
          ∷ set_put ∷ code_put ∷ id_put ∷ [] in
          let fit : AllFit 200 ps = (
            record { low = lit≤ tt; wide = refl; high = lit≤ tt },
            (fits-columns 200 66 73 200 66 73 false wanted p.wanted_wide refl, (record { low = lit≤ tt; wide = refl; high = lit≤ tt }, fit3)),
          ) in
          let ec : row_cents wanted ≡ zeros 2 =
          zero_is (row_cents wanted) z ∙ ap (λ (n : ℕ). replicate n zero_digit) (wanted_width 197 198 (lit≤ tt) (lit≤ tt) (lit≤ tt)) in
          same_row (written ps row) wanted (length-written 200 ps row fit p.wide) p.wanted_wide
          record {
            key = columns-written 200 1 12 (lit≤ tt) (lit≤ tt) ps row refl fit p.wide ∙ same_key;
            local = columns-written 200 13 15 (lit≤ tt) (lit≤ tt) ps row refl fit p.wide ∙ whole_local;
            id = columns-written 200 16 30 (lit≤ tt) (lit≤ tt) ps row refl fit p.wide ∙ whole_id;
            names = columns-written 200 31 65 (lit≤ tt) (lit≤ tt) ps row refl fit p.wide ∙ same_names;
            arrearage = columns-written 200 66 73 (lit≤ tt) (lit≤ tt) ps row refl fit p.wide ∙ whole_amount;
            middle = columns-written 200 74 194 (lit≤ tt) (lit≤ tt) ps row refl fit p.wide ∙ same_middle;
            set = columns-written 200 195 195 (lit≤ tt) (lit≤ tt) ps row refl fit p.wide ∙ whole_set;
            status =
                columns-written 200 196 196 (lit≤ tt) (lit≤ tt) ps row refl fit p.wide
                ∙ status_there (is_zero (row_arrearage wanted)) (is_zero (row_cents wanted)) z (columns 196 196 row) (live_column row p.wide live)
                ∙ sym (status_column wanted p.wanted_wide p.wanted_sound);
            cents = columns-written 200 197 198 (lit≤ tt) (lit≤ tt) ps row refl fit p.wide ∙ sym ec;
            filler = columns-written 200 199 200 (lit≤ tt) (lit≤ tt) ps row refl fit p.wide ∙ same_filler;
          }

      goes_m : Goes row_setting row3 (record_if (is_other_balance row wanted) (arrearage_record row wanted)) wanted
      goes_m =
          goes_if row_setting (is_other_balance row wanted) (arrearage_record row wanted) row3 wanted
          (sent_type M A row (arrearage_record row wanted) false sent_m refl)
          (λ t. accepted M (arrearage_record row wanted) row3 sent_m kind_m (live_with_name (set_put ∷ code_put ∷ id_put ∷ []) fit3 refl refl live) right_m)
          (λ t. written_m row3 ∙ ends_amended t)
          ends_same

      pub goes_all : Goes row_setting row (records_to row wanted) wanted
      unfolding records_to
      goes_all =
          let c = record_if (is_other_case_id row wanted) (case_id_record row wanted) in
          let l = record_if (is_other_local_code row wanted) (local_code_record row wanted) in
          let x = record_if (is_other_set row wanted) (exclusion_record row wanted) in
          let m = record_if (is_other_balance row wanted) (arrearage_record row wanted) in
          goes_append row_setting row c row1 (l ++ (x ++ m)) wanted goes_c
          (goes_append row_setting row1 l row2 (x ++ m) wanted goes_l (goes_append row_setting row2 x row3 m wanted goes_r goes_m))

  -- ---- the records written are corrections

  every_if : (f : List ℕ → Bool) (b : Bool) (rec : List ℕ) (recs : List (List ℕ)) → f rec ≡ true → every f recs ≡ true → every f (record_if b rec ++ recs) ≡ true
  every_if f true rec recs t h = rw t h
  every_if f false rec recs t h = h

  only_if : (f : List ℕ → Bool) (b : Bool) (rec : List ℕ) → f rec ≡ true → every f (record_if b rec) ≡ true
  only_if f true rec t = rw t
  only_if f false rec t = refl

  pub are_corrections : every (is_correction (row_key row)) (records_to row wanted) ≡ true
  unfolding records_to
  are_corrections =
      let f = is_correction (row_key row) in
      let l = record_if (is_other_local_code row wanted) (local_code_record row wanted) in
      let x = record_if (is_other_set row wanted) (exclusion_record row wanted) in
      let m = record_if (is_other_balance row wanted) (arrearage_record row wanted) in
      every_if f (is_other_case_id row wanted) (case_id_record row wanted) (l ++ (x ++ m)) (sent_correction C row (case_id_record row wanted) sent_c refl)
      (every_if f (is_other_local_code row wanted) (local_code_record row wanted) (x ++ m) (sent_correction L row (local_code_record row wanted) sent_l refl)
      (every_if f (is_other_set row wanted) (exclusion_record row wanted) m (sent_correction R row (exclusion_record row wanted) sent_r refl)
      (only_if f (is_other_balance row wanted) (arrearage_record row wanted) (sent_correction M row (arrearage_record row wanted) sent_m refl))))

-- ---- no record where the rows are the same

same_none : (row wanted : List ℕ) → row ≡ wanted → records_to row wanted ≡ []
unfolding records_to is_other_case_id is_other_local_code is_other_set is_other_balance
same_none row wanted e =
    rw (e, same_self (columns 16 30 wanted), same_self (columns 13 15 wanted), same_self (columns 195 195 wanted), same_self (columns 66 73 wanted), same_self (columns 197 198 wanted))

pub goes_there : (row wanted list : List ℕ) → Pair row wanted → (year : ℕ) (names : List (List ℕ)) → refusal29 row wanted list ≡ false
    → Goes (setting_of (row_state row) year list names) row (records_to row wanted) wanted
unfolding refusal29
goes_there row wanted list p year names f = go (same_bytes row wanted) refl f
  where
    go : (b : Bool) → same_bytes row wanted ≡ b → (not b && is_barred row wanted list) ≡ false
        → Goes (setting_of (row_state row) year list names) row (records_to row wanted) wanted
    go true e f = let d = same_eq row wanted e in rw (same_none row wanted d) d
    go false e f = goes_all row wanted list p year names f
