-- Document 01, "Proved table": the ten lines (a)–(j) as one statement, over whole records and, where a line names a field, over the field.
-- The control record's state is OH, the year 2007, the list of local codes empty; no name is given. Assumes nothing.
use Rattle.std.specs.Prelude.{ℕ, ◌+◌, ◌-◌, ◌^◌, ◌≡◌, List, [], ◌∷◌, ◌++◌, true, false, length}
use Rattle.std.proofs.Math.Option.{Option, none, some}
use Rattle.text.specs.Options.{one_or_none}
use Rattle.text.specs.Characters.{is_letter, space, hyphen, comma, A, D, E, F, H, I, J, L, M, N, O, P, R, S, letter_t, X}
use Rattle.text.specs.Fields.{placed, digit_field, spaces, same_bytes}
use Rattle.layout.specs.Ssn.{wrong_ssn}
use Rattle.layout.specs.Name.{is_name}
use Rattle.dates.specs.Calendar.{is_date}
use Rattle.layout.specs.ProcessYear.{in_window}
use Rattle.exclusionsets.specs.Exclusions.{exclusions_of}
use Rattle.casemaster.specs.Row.{row_key, row_arrearage, row_exclusions, row_status, is_live, is_sound_row}
use Rattle.casemaster.specs.Rows.{row_with}
use Rattle.layout.specs.Record.{record_key}
use Rattle.onecase.specs.Verdict.{Judgement, judgement}
use Rattle.onecase.specs.Changes.{zeros}
use Rattle.onecase.specs.Machine.{next}
use Rattle.judging.specs.Setting.{setting_of}

-- ---- the records

-- letters at the front of a field of a width, spaces behind them
abbrev pub text : ℕ → List ℕ → List ℕ
text width letters = letters ++ spaces (width - length letters)

abbrev pub ohio : List ℕ
ohio = O ∷ H ∷ []

abbrev pub smith : List ℕ
smith = S ∷ M ∷ I ∷ letter_t ∷ H ∷ []

abbrev pub john : List ℕ
john = J ∷ O ∷ H ∷ N ∷ []

-- a record of a type: OH, SSN 123456789, SMITH JOHN, 25, N, else blank
unfoldable pub base : ℕ → List ℕ
base t =
    placed 1 2 ohio
    (placed 6 14 (digit_field 9 123456789)
    (placed 30 49 (text 20 smith)
    (placed 50 64 (text 15 john)
    (placed 65 72 (digit_field 8 25)
    (placed 73 73 (t ∷ [])
    (placed 74 74 (N ∷ [])
    (spaces 245)))))))

-- the record with another SSN, last name, amount, case type, process year, date issued, exclusion field
unfoldable pub of_ssn : ℕ → List ℕ → List ℕ
of_ssn n rec = placed 6 14 (digit_field 9 n) rec

unfoldable pub of_name : List ℕ → List ℕ → List ℕ
of_name letters rec = placed 30 49 (text 20 letters) rec

unfoldable pub of_amount : ℕ → List ℕ → List ℕ
of_amount n rec = placed 65 72 (digit_field 8 n) rec

unfoldable pub of_case_type : ℕ → List ℕ → List ℕ
of_case_type t rec = placed 74 74 (t ∷ []) rec

unfoldable pub of_year : ℕ → List ℕ → List ℕ
of_year n rec = placed 80 83 (digit_field 4 n) rec

unfoldable pub of_date : ℕ → List ℕ → List ℕ
of_date n rec = placed 180 187 (digit_field 8 n) rec

unfoldable pub of_exclusions : List ℕ → List ℕ → List ℕ
of_exclusions letters rec = placed 188 227 (text 40 letters) rec

-- ---- the row and the machine

-- a live row with the key and the names of the records: local code 000, arrearage 50, no payment, no exclusion, cents 00, else blank
unfoldable pub live_row : List ℕ
live_row =
    placed 1 2 ohio
    (placed 3 11 (digit_field 9 123456789)
    (placed 12 12 (N ∷ [])
    (placed 13 15 (zeros 3)
    (placed 31 50 (text 20 smith)
    (placed 51 65 (text 15 john)
    (placed 66 73 (digit_field 8 50)
    (placed 79 90 (zeros 12)
    (placed 195 195 (0 ∷ [])
    (placed 197 198 (zeros 2)
    (spaces 200))))))))))

-- the verdict on a record, and the row after it
unfoldable pub verdict : Option (List ℕ) → List ℕ → Judgement
verdict row rec = judgement (setting_of ohio 2007 [] []) row rec

unfoldable pub after : Option (List ℕ) → List ℕ → Option (List ℕ)
after row rec = next (setting_of ohio 2007 [] []) row rec

-- the codes of a verdict, no other, and no stored name
unfoldable pub gets : List ℕ → Judgement
gets cs = record { codes = cs; name = none }

unfoldable pub passes : Judgement
passes = gets []

-- a field of the row, where there is one
abbrev pub seen : (List ℕ → List ℕ) → Option (List ℕ) → List ℕ
seen field none = []
seen field (some row) = field row

-- ---- the names and words of lines (c) and (d)

abbrev pub LI : List ℕ
LI = L ∷ I ∷ []

abbrev pub O-NE : List ℕ
O-NE = O ∷ hyphen ∷ N ∷ E ∷ []

abbrev pub O·NE : List ℕ
O·NE = O ∷ space ∷ N ∷ E ∷ []

abbrev pub blank : List ℕ
blank = []

-- `RET,PAS FIN`
abbrev pub three_words : List ℕ
three_words = R ∷ E ∷ letter_t ∷ comma ∷ P ∷ A ∷ S ∷ space ∷ F ∷ I ∷ N ∷ []

-- `,,TAX`
abbrev pub one_word : List ℕ
one_word = comma ∷ comma ∷ letter_t ∷ A ∷ X ∷ []

abbrev pub RETPAS : List ℕ
RETPAS = R ∷ E ∷ letter_t ∷ P ∷ A ∷ S ∷ []

-- ---- the records of line (i)

unfoldable pub tanf : List ℕ
tanf = of_case_type A (base A)

unfoldable pub non_tanf : List ℕ
non_tanf = of_case_type N (base A)

-- ---- the rows of lines (h) and (j)

-- the live row with another arrearage, and deleted
unfoldable pub owing : ℕ → List ℕ
owing n = placed 66 73 (digit_field 8 n) live_row

unfoldable pub deleted_row : List ℕ
deleted_row = placed 196 196 (D ∷ []) (owing 0)

-- the live row after M of 0, then after L, then after A of 25
unfoldable pub after_m : Option (List ℕ)
after_m = after (some live_row) (of_amount 0 (base M))

unfoldable pub after_l : Option (List ℕ)
after_l = after after_m (base L)

unfoldable pub after_a : Option (List ℕ)
after_a = after after_l (of_amount 25 (base A))

-- the live row after M of an amount, then M of another
unfoldable pub after_amounts : ℕ → ℕ → Option (List ℕ)
after_amounts m n = after (after (some live_row) (of_amount m (base M))) (of_amount n (base M))

-- ---- the table

pub record ProvedTable : Type 0 where
  -- A of 24 gets 08, of 25 none
  pub a :
      (verdict none (of_amount 24 (base A)) ≡ gets (8 ∷ []))
      × (verdict none (of_amount 25 (base A)) ≡ passes)
  -- year 2007: 2000 and 2007 pass, 1999 and 2008 get 13
  pub b :
      (verdict (some live_row) (of_year 2000 (base S)) ≡ passes)
      × (verdict (some live_row) (of_year 2007 (base S)) ≡ passes)
      × (verdict (some live_row) (of_year 1999 (base S)) ≡ gets (13 ∷ []))
      × (verdict (some live_row) (of_year 2008 (base S)) ≡ gets (13 ∷ []))
      × (in_window 2007 (digit_field 4 2000) ≡ true)
      × (in_window 2007 (digit_field 4 2007) ≡ true)
      × (in_window 2007 (digit_field 4 1999) ≡ false)
      × (in_window 2007 (digit_field 4 2008) ≡ false)
  -- `LI` and `O-NE` pass, `O NE` and blank get 05
  pub c :
      (verdict none (of_name LI (base A)) ≡ passes)
      × (verdict none (of_name O-NE (base A)) ≡ passes)
      × (verdict none (of_name O·NE (base A)) ≡ gets (5 ∷ []))
      × (verdict none (of_name blank (base A)) ≡ gets (5 ∷ []))
      × (is_name (text 4 LI) ≡ true)
      × (is_name (text 4 O-NE) ≡ true)
      × (is_name (text 4 O·NE) ≡ false)
      × (is_name (text 4 blank) ≡ false)
  -- `RET,PAS FIN` three, `,,TAX` one, `RETPAS` 16; the set's bits, lowest first, are ADM RET VEN SAL TAX PAS FIN DCK
  pub d :
      (verdict none (of_exclusions three_words (base A)) ≡ passes)
      × (verdict none (of_exclusions one_word (base A)) ≡ passes)
      × (verdict none (of_exclusions RETPAS (base A)) ≡ gets (16 ∷ []))
      × (seen row_exclusions (after none (of_exclusions three_words (base A))) ≡ (2 ^ 1 + 2 ^ 5 + 2 ^ 6) ∷ [])
      × (seen row_exclusions (after none (of_exclusions one_word (base A))) ≡ 2 ^ 4 ∷ [])
      × (exclusions_of (text 40 three_words) ≡ some (2 ^ 1 + 2 ^ 5 + 2 ^ 6))
      × (exclusions_of (text 40 one_word) ≡ some (2 ^ 4))
      × (exclusions_of (text 40 RETPAS) ≡ none)
  -- 20000229 passes, 19000229 gets 15
  pub e :
      (verdict none (of_date 20000229 (base A)) ≡ passes)
      × (verdict none (of_date 19000229 (base A)) ≡ gets (15 ∷ []))
      × (is_date (digit_field 8 20000229) ≡ true)
      × (is_date (digit_field 8 19000229) ≡ false)
  -- 666123456 and 123004567 get 02, 900000000 passes
  pub f :
      (verdict none (of_ssn 666123456 (base A)) ≡ gets (2 ∷ []))
      × (verdict none (of_ssn 123004567 (base A)) ≡ gets (2 ∷ []))
      × (verdict none (of_ssn 900000000 (base A)) ≡ passes)
      × (wrong_ssn (digit_field 9 666123456) ≡ true)
      × (wrong_ssn (digit_field 9 123004567) ≡ true)
      × (wrong_ssn (digit_field 9 900000000) ≡ false)
  -- C9, D1 letters; CA, E1 not
  pub g :
      (is_letter 0xC9 ≡ true)
      × (is_letter 0xD1 ≡ true)
      × (is_letter 0xCA ≡ false)
      × (is_letter 0xE1 ≡ false)
  -- M of 0, L, A of 25, from a live row with the same key and name: deleted, 09, live; with 09 nothing changes
  pub h :
      (is_sound_row live_row ≡ true)
      × (is_live live_row ≡ true)
      × (row_key live_row ≡ record_key (base M))
      × (verdict (some live_row) (of_amount 0 (base M)) ≡ passes)
      × (after_m ≡ some deleted_row)
      × (row_status deleted_row ≡ D ∷ [])
      × (row_arrearage deleted_row ≡ digit_field 8 0)
      × (verdict after_m (base L) ≡ gets (9 ∷ []))
      × (after_l ≡ some deleted_row)
      × (verdict after_l (of_amount 25 (base A)) ≡ passes)
      × (after_a ≡ some (owing 25))
      × (is_live (owing 25) ≡ true)
  -- A and N are two keys: of two records that differ in column 74 alone, each leaves a row under its own key, and none under the other's
  pub i :
      (same_bytes (record_key tanf) (record_key non_tanf) ≡ false)
      × (seen row_key (after none tanf) ≡ record_key tanf)
      × (seen row_key (after none non_tanf) ≡ record_key non_tanf)
      × (row_with (record_key tanf) (one_or_none (after none tanf)) ≡ after none tanf)
      × (row_with (record_key non_tanf) (one_or_none (after none non_tanf)) ≡ after none non_tanf)
      × (row_with (record_key non_tanf) (one_or_none (after none tanf)) ≡ none)
      × (row_with (record_key tanf) (one_or_none (after none non_tanf)) ≡ none)
  -- M 100 then M 200 on a key, and turned round: different rows
  pub j :
      (after_amounts 100 200 ≡ some (owing 200))
      × (after_amounts 200 100 ≡ some (owing 100))
      × (same_bytes (owing 200) (owing 100) ≡ false)
