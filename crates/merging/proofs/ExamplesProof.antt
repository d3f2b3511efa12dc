-- The worked examples of merging hold together, by computation. Assumes nothing.
use mathlib.Core.Path.{refl}
use Rattle.answers.specs.Answer.{outcome_by}
use Rattle.text.specs.Characters.{is_digit}
use Rattle.text.specs.Fields.{is_blank, all_digits, are_digits, number, digit_field, same_bytes, is_one_of}
use Rattle.text.specs.Blocks.{blocks, joined, over}
use Rattle.layout.specs.States.{state_table, is_state}
use Rattle.layout.specs.Batch.{details_of, control_of}
use Rattle.batchfile.specs.Totals.{has_ctl, has_state, has_totals, count_of, amount_in, amount_of, are_counts_right, are_amounts_right}
use Rattle.batchfile.specs.Refusals.{refusal5, refusal6, refusal20, refusal21, refusal7, refusal8, batch_refusal}
use Rattle.batchfile.specs.Stated.{totals_record}
use Rattle.merging.specs.Merge.{merged_control, merged_batch, refusal32, refusal33, merge_refusal, merge_outcome}
use Rattle.merging.specs.Examples.{detail, stating, batch, batch_of_one, batch_of_two, empty_batch, both_batch, full_batch, miscounted, missummed, other_state, MergeExamples}

pub merge_examples : MergeExamples
unfolding
    is_digit is_blank all_digits are_digits number digit_field same_bytes is_one_of blocks joined over state_table is_state details_of control_of
    has_ctl has_state has_totals count_of amount_in amount_of are_counts_right are_amounts_right
    outcome_by refusal5 refusal6 refusal20 refusal21 refusal7 refusal8 batch_refusal
    totals_record merged_control merged_batch refusal32 refusal33 merge_refusal merge_outcome
    detail stating batch batch_of_one batch_of_two empty_batch both_batch full_batch miscounted missummed other_state
merge_examples =
    record {
      both = refl;
      without_details = refl;
      neither_has = refl;
      full = refl;
      too_many = refl;
      first_8 = refl;
      second_5 = refl;
      second_7 = refl;
      states = refl;
      short = refl;
    }
