-- A call that no refusal stops: none of the conditions holds. What that says of all that was lent stands in KnownLaws. Assumes nothing.
use mathlib.Core.Path.{◌≡◌}
use mathlib.Core.Bool.{false}
use Rattle.casemaster.specs.Refusals.{refusal3, refusal4, master_refusal}
use Rattle.answers.proofs.AnswerLaws.{refuse_none}
use Rattle.batchfile.proofs.RefusalsLaws.{KnownBatch, batch_known}
use Rattle.batch.specs.Call.{Call}
use Rattle.batch.specs.Refusals.{refusal1, refusal2, refusal9, refusal10, refusal11, space_refusal, apply_refusal}

-- none of the conditions holds
pub record Passed (c : Call) : Type 0 where
  pub no1 : refusal1 c.year ≡ false
  pub no2 : refusal2 c.locals ≡ false
  pub no3 : refusal3 c.limit c.master c.rows ≡ false
  pub no4 : refusal4 c.master c.rows ≡ false
  pub batch_passed : KnownBatch c.limit c.batch
  pub no9 : refusal9 c.limit c.master c.rows c.batch ≡ false
  pub no10 : refusal10 c.batch c.verdicts ≡ false
  pub no11 : refusal11 c.batch c.rejects ≡ false

pub passed : (c : Call) → apply_refusal c ≡ 0 → Passed c
unfolding apply_refusal master_refusal space_refusal
passed c e =
    let p1 = refuse_none _ 0 _ e in
    let p2 = refuse_none _ 1 _ p1.1 in
    let p3 = refuse_none _ 2 _ p2.1 in
    let p4 = refuse_none _ 3 _ p3.1 in
    let pb = batch_known c.limit c.batch _ p4.1 in
    let p9 = refuse_none _ 8 _ pb.1 in
    let p10 = refuse_none _ 9 _ p9.1 in
    let p11 = refuse_none _ 10 _ p10.1 in
    record {
      no1 = p1.0;
      no2 = p2.0;
      no3 = p3.0;
      no4 = p4.0;
      batch_passed = pb.0;
      no9 = p9.0;
      no10 = p10.0;
      no11 = p11.0;
    }
