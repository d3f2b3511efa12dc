-- The columns of Chart 0-2 in the control record: its nine fields stand one behind the other, so each stands in the columns behind the
-- widths of those before it. Assumes nothing.
use mathlib.Core.Path.{◌≡◌, refl}
use mathlib.Core.List.{List, [], ◌∷◌, map}
use Prim.Native.Nat.{ℕ}
use lib.ListN.{length}
use Rattle.text.specs.Fields.{digit_field, spaces}
use Rattle.rejectfile.specs.Counts.{Counts, control_record, IsControlRecord}
use Rattle.rejectfile.proofs.CountsLaws.{length-control}
use Rattle.text.proofs.NumberLaws.{length_digits}
use Rattle.text.proofs.PartsLaws.{columns-appended}
use Rattle.batchfile.specs.Totals.{CTL}

pub control-columns : (state : List ℕ) (counts : Counts) → length state ≡ 2 → IsControlRecord state counts (control_record state counts)
unfolding control_record
control-columns state counts two =
    let others : List (List ℕ) =
    CTL ∷ digit_field 9 counts.accepted_tanf ∷ digit_field 9 counts.rejected_tanf ∷ digit_field 9 counts.accepted_non_tanf
    ∷ digit_field 9 counts.rejected_non_tanf ∷ digit_field 9 counts.warned_tanf ∷ digit_field 9 counts.warned_non_tanf ∷ spaces 186 ∷ [] in
    let widths : map length (state ∷ others) ≡ 2 ∷ 3 ∷ 9 ∷ 9 ∷ 9 ∷ 9 ∷ 9 ∷ 9 ∷ 186 ∷ [] =
    rw (
      two,
      length_digits 9 counts.accepted_tanf,
      length_digits 9 counts.rejected_tanf,
      length_digits 9 counts.accepted_non_tanf,
      length_digits 9 counts.rejected_non_tanf,
      length_digits 9 counts.warned_tanf,
      length_digits 9 counts.warned_non_tanf,
    )
    refl in
    let at = columns-appended (2 ∷ 3 ∷ 9 ∷ 9 ∷ 9 ∷ 9 ∷ 9 ∷ 9 ∷ 186 ∷ []) state others widths in
    record {
      wide = length-control state counts two;
      state_is = at 0;
      control_is = at 1;
      tanf_accepted = at 2;
      tanf_rejected = at 3;
      non_tanf_accepted = at 4;
      non_tanf_rejected = at 5;
      tanf_warning = at 6;
      non_tanf_warning = at 7;
      filler_is = at 8;
    }
