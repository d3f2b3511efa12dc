-- The totals that a control record of Chart A-2 states, totals summed, and the control record that states some totals. Assumes nothing.
use Rattle.std.specs.Prelude.{ℕ, ◌+◌, List, ◌++◌}
use Rattle.text.specs.Fields.{number, digit_field, spaces}
use Rattle.layout.specs.ChartA2.{total_tanf, total_non_tanf, amount_tanf, amount_non_tanf}
use Rattle.batchfile.specs.Totals.{CTL}
use Rattle.batchfile.specs.declared.totals.Totals.{Totals}

-- the four totals: a count and an amount for each case type
pub record Stated : Type 0 where
  pub tanf_count : ℕ
  pub non_tanf_count : ℕ
  pub tanf_amount : ℕ
  pub non_tanf_amount : ℕ

-- those that a control record states
abbrev pub stated_by : List ℕ → Stated
stated_by rec =
    record {
      tanf_count = number (total_tanf rec);
      non_tanf_count = number (total_non_tanf rec);
      tanf_amount = number (amount_tanf rec);
      non_tanf_amount = number (amount_non_tanf rec);
    }

-- summed
abbrev pub stated_sum : Stated → Stated → Stated
stated_sum s t =
    record {
      tanf_count = s.tanf_count + t.tanf_count;
      non_tanf_count = s.non_tanf_count + t.non_tanf_count;
      tanf_amount = s.tanf_amount + t.tanf_amount;
      non_tanf_amount = s.non_tanf_amount + t.non_tanf_amount;
    }

-- the control record of Chart A-2, field behind field
unfoldable pub totals_record : List ℕ → Stated → List ℕ
totals_record state t =
    state ++ CTL ++ digit_field 9 t.tanf_count ++ digit_field 9 t.non_tanf_count ++ digit_field 11 t.tanf_amount
    ++ digit_field 11 t.non_tanf_amount ++ spaces 200

-- the totals that the code's value stands for
abbrev pub totals_in : Totals → Stated
totals_in t =
    record {
      tanf_count = t.tanf_count;
      non_tanf_count = t.non_tanf_count;
      tanf_amount = t.tanf_amount;
      non_tanf_amount = t.non_tanf_amount;
    }
