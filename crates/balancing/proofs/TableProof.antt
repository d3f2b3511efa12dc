-- The worked examples hold together, by computation; and their rows have 200 bytes, their lines 240. Assumes nothing.
use mathlib.Core.Path.{◌≡◌, refl}
use lib.ListN.{length}
use Rattle.answers.specs.Answer.{outcome_by}
use Rattle.text.specs.Characters.{space, is_letter, is_digit}
use Rattle.text.specs.Fields.{is_blank, is_zero, all_digits, are_digits, number, digit_field, same_bytes, is_one_of}
use Rattle.text.specs.Blocks.{blocks, joined, over}
use Rattle.text.specs.ByteOrder.{order_of, is_less, below_first, rising}
use Rattle.layout.specs.Limits.{max_rows}
use Rattle.layout.specs.States.{state_table, is_state}
use Rattle.layout.specs.Ssn.{wrong_ssn}
use Rattle.layout.specs.Name.{is_name_byte, is_name_rest, is_name, has_letter}
use Rattle.layout.specs.Key.{is_case_type, is_sound_key}
use Rattle.casemaster.specs.Row.{balance, is_balance_zero, is_live, is_deleted, are_fields_sound, is_end_sound, is_sound_row}
use Rattle.casemaster.specs.Rows.{row_with, with_row}
use Rattle.casemaster.specs.Master.{keys_of, are_sound_rows}
use Rattle.casemaster.specs.Refusals.{refusal3, refusal4, master_refusal}
use Rattle.collectionfile.specs.Line.{line_key, is_last_digit, is_amount, amount, amount_cents, collected, adjusted, is_right}
use Rattle.collectionfile.specs.File.{line_count, lines_in, last_in, refusal22, lines_above, is_total, refusal23, refusal24, file_refusal}
use Rattle.posting.specs.Posting.{balance_after, is_posted_on, with_balance, posted_row, is_posted_in, after_line, after_lines, posted_lines, listed_from}
use Rattle.balancing.specs.Under.{lines_under}
use Rattle.balancing.specs.Balances.{balance_given, key_balance, excess, excesses_from}
use Rattle.posting.specs.Post.{post_outcome}
use Rattle.balancing.specs.Table.{row, line_with, line, last_of, last, field, file, Examples}

pub examples : Examples
unfolding
    is_letter is_digit is_blank is_zero all_digits are_digits number digit_field same_bytes is_one_of state_table is_state wrong_ssn is_name_byte is_name_rest
    is_name has_letter blocks joined over is_case_type is_sound_key order_of is_less below_first rising is_live is_deleted row_with with_row keys_of balance
    is_balance_zero are_fields_sound is_end_sound is_sound_row are_sound_rows line_key is_last_digit is_amount amount amount_cents collected adjusted is_right balance_after
    is_posted_on with_balance posted_row is_posted_in after_line after_lines posted_lines listed_from lines_under balance_given key_balance excess excesses_from
    max_rows master_refusal line_count lines_in last_in refusal3 refusal4 refusal22 lines_above is_total refusal23 refusal24 file_refusal outcome_by post_outcome
    row line_with line last_of last field file
examples =
    record {
      plain = refl;
      signed = refl;
      minus = refl;
      past = refl;
      signed_zero = refl;
      signed_nine = refl;
      minus_zero = refl;
      live = refl;
      not_deleted = refl;
      deleted = refl;
      lowered = refl;
      borrowed = refl;
      emptied = refl;
      over = refl;
      last_cent = refl;
      past_last_cent = refl;
      over_cent = refl;
      reached = refl;
      most = refl;
      too_much = refl;
      both = refl;
      bad = refl;
      on_deleted = refl;
      neither = refl;
      unchanged = refl;
      list = refl;
      turned = refl;
      carried_out = refl;
      turned_away = refl;
      bad_counted = refl;
      both_counted = refl;
      wrong_total = refl;
      short_list = refl;
      last_alone = refl;
    }

pub widths : (length (row 0 0 space) ≡ 200) × (length (line 0 0) ≡ 240) × (length (last 0 0) ≡ 240)
unfolding row line line_with last_of last digit_field
widths = (refl, refl, refl)
