-- `differences::is_barred` meets its contract: the definition's tests in turn. Assumes nothing.
use lib.Dec.{lit≤}
use Rattle.text.proofs.FieldsLaws.{one_column}
use Rattle.caserecords.specs.Differences.{is_barred}
use Rattle.caserecords.proofs.differences.is_barred.Goals as goal

pub returns : goal.returns
unfolding is_barred
returns c =
    rw (
      one_column 195 c.args.wanted.now (lit≤ tt),
      c.is_zero-no_cents.ensures,
      c.field-3.ensures,
      c.is_other_balance-other_balance.ensures,
      c.is_widened-good_set.ensures,
      c.is_other_set-other_set.ensures,
      c.is_zero_or_listed-good_code.ensures,
      c.field-2.ensures,
      c.is_other_local_code-other_code.ensures,
      c.is_blank-no_id.ensures,
      c.field.ensures,
      c.is_other_case_id-other_id.ensures,
      c.is_other_elsewhere-elsewhere.ensures,
      c.is_live-live.ensures,
    )
