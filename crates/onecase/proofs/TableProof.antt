-- Document 01, "Proved table": the ten lines (a)–(j) hold together, by computation; and their records have 245 bytes, the rows 200.
-- Assumes nothing.
use Prim.Native.Nat.{ℕ}
use mathlib.Core.Path.{◌≡◌, refl}
use lib.ListN.{length}
use Rattle.text.specs.Characters.{is_letter, is_digit}
use Rattle.text.specs.Fields.{is_blank, is_zero, all_digits, are_digits, number, digit_field, same_bytes, is_one_of}
use Rattle.layout.specs.States.{state_table, is_state}
use Rattle.layout.specs.Ssn.{wrong_ssn}
use Rattle.layout.specs.Name.{is_name_byte, is_name_rest, is_name, has_letter}
use Rattle.dates.specs.Calendar.{is_leap, days_in, is_day, is_date}
use Rattle.layout.specs.ProcessYear.{in_window}
use Rattle.exclusionsets.specs.Exclusions.{exclusion_names, is_separator, words_from, read_onto, exclusions_of}
use Rattle.text.specs.Blocks.{blocks}
use Rattle.layout.specs.Locals.{codes_of_list, is_listed}
use Rattle.layout.specs.Key.{is_case_type, is_sound_key}
use Rattle.casemaster.specs.Row.{is_balance_zero, is_live, are_fields_sound, is_end_sound, is_sound_row}
use Rattle.casemaster.specs.Rows.{row_with}
use Rattle.layout.specs.Record.{is_known_type}
use Rattle.judging.specs.Errors.{error01, error02, error03, error04, error05, error06, error07, error08, is_live_row, error09, is_local_code, error10, error11, error12, error13, wrong_part, error14, error15, error16, is_other_name, error17, error18, is_wrong_key, holds09, holds17, errors}
use Rattle.judging.specs.Warnings.{warning51, is_renamed, warning52, warnings}
use Rattle.onecase.specs.Verdict.{is_accepted, codes, judgement}
use Rattle.onecase.specs.Changes.{exclusion_byte, added_local_code, fresh_row, amended}
use Rattle.onecase.specs.Machine.{changed, added, applied, next}
use Rattle.onecase.specs.Table.{LI, O-NE, O·NE, blank, three_words, one_word, RETPAS, ProvedTable, base, of_ssn, of_name, of_amount, of_case_type, of_year, of_date, of_exclusions, verdict, after, gets, passes, live_row, owing, deleted_row, after_m, after_l, after_a, after_amounts, tanf, non_tanf}

pub proved_table : ProvedTable
unfolding
    is_letter is_digit is_blank is_zero all_digits are_digits number digit_field same_bytes is_one_of state_table is_state wrong_ssn
    is_name_byte is_name_rest is_name has_letter is_leap days_in is_day is_date in_window exclusion_names is_separator words_from read_onto exclusions_of
    blocks codes_of_list is_listed is_case_type is_sound_key is_balance_zero is_live are_fields_sound is_end_sound is_sound_row
    is_known_type error01 error02 error03 error04 error05 error06 error07 error08 is_live_row error09 is_local_code error10 error11 error12
    error13 wrong_part error14 error15 error16 is_other_name error17 error18 is_wrong_key holds09 holds17 errors
    warning51 is_renamed warning52 warnings is_accepted codes judgement
    exclusion_byte added_local_code fresh_row amended changed added applied next
    base of_ssn of_name of_amount of_case_type of_year of_date of_exclusions verdict after gets passes
    live_row owing deleted_row after_m after_l after_a after_amounts row_with tanf non_tanf
proved_table =
    record {
      a = (refl, refl);
      b = (refl, refl, refl, refl, refl, refl, refl, refl);
      c = (refl, refl, refl, refl, refl, refl, refl, refl);
      d = (refl, refl, refl, refl, refl, refl, refl, refl);
      e = (refl, refl, refl, refl);
      f = (refl, refl, refl, refl, refl, refl);
      g = (refl, refl, refl, refl);
      h = (refl, refl, refl, refl, refl, refl, refl, refl, refl, refl, refl, refl);
      i = (refl, refl, refl, refl, refl, refl, refl);
      j = (refl, refl, refl);
    }

-- the records have 245 bytes, whatever the type and the number, and the rows 200
pub table-widths
    : (t n : ℕ)
    → (length (base t) ≡ 245)
    × (length (of_ssn n (base t)) ≡ 245)
    × (length (of_amount n (base t)) ≡ 245)
    × (length (of_case_type n (base t)) ≡ 245)
    × (length (of_year n (base t)) ≡ 245)
    × (length (of_date n (base t)) ≡ 245)
    × (length (of_name LI (base t)) ≡ 245)
    × (length (of_name O-NE (base t)) ≡ 245)
    × (length (of_name O·NE (base t)) ≡ 245)
    × (length (of_name blank (base t)) ≡ 245)
    × (length (of_exclusions three_words (base t)) ≡ 245)
    × (length (of_exclusions one_word (base t)) ≡ 245)
    × (length (of_exclusions RETPAS (base t)) ≡ 245)
    × (length (owing n) ≡ 200)
    × (length live_row ≡ 200)
    × (length deleted_row ≡ 200)
unfolding digit_field base of_ssn of_name of_amount of_case_type of_year of_date of_exclusions live_row owing deleted_row
table-widths t n = (refl, refl, refl, refl, refl, refl, refl, refl, refl, refl, refl, refl, refl, refl, refl, refl)
