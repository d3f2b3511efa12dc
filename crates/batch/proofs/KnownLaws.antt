-- What is known of a call that no refusal stops, each refusal read once. Assumes nothing.
use Prim.Native.Nat.{ℕ, ◌+◌, ◌*◌, ◌/◌, ◌%◌, ◌≤◌}
use mathlib.Core.Path.{◌≡◌}
use mathlib.Core.Bool.{true, not, ◌||◌}
use native.Mathlib.Omega.{arith}
use lib.Dec.{eqb, ltb}
use lib.ListN.{length}
use borrow.Author.Tests.{ltb-false, eqb-true, not-false}
use Rattle.casemaster.specs.Master.{rows_of, are_sound_rows}
use Rattle.layout.specs.Locals.{is_local_list}
use Rattle.text.proofs.BoolLaws.{or_left, or_right}
use Rattle.batchfile.proofs.RefusalsLaws.{KnownBatch}
use Rattle.batch.proofs.PassedLaws.{Passed}
use Rattle.casemaster.specs.Refusals.{refusal3, refusal4}
use Rattle.turns.specs.Adds.{adds_without_row}
use Rattle.layout.specs.Batch.{detail_count, details_of}
use Rattle.batch.specs.Call.{Call}
use Rattle.batch.specs.Refusals.{refusal1, refusal2, refusal9, refusal10, refusal11}

-- all that follows from no refusal
pub record Known (c : Call) : Type 0 where
  -- 1 and 2
  pub year_from : 1900 ≤ c.year
  pub year_to : c.year ≤ 9999
  pub list : is_local_list c.locals ≡ true
  -- 3 and 4
  pub master_whole : length c.master % 200 ≡ 0
  pub rows_in : c.rows * 200 ≤ length c.master
  pub rows_limit : c.rows ≤ c.limit
  pub sound : are_sound_rows (rows_of c.rows c.master) ≡ true
  -- 5 to 8, 20 and 21
  pub batch_passed : KnownBatch c.limit c.batch
  pub batch_whole : length c.batch ≡ (detail_count c.batch + 1) * 245
  pub batch_in : detail_count c.batch * 245 + 245 ≤ length c.batch
  pub batch_limit : detail_count c.batch ≤ c.limit
  -- 9 to 11
  pub room : c.rows + adds_without_row (rows_of c.rows c.master) (details_of c.batch) ≤ length c.master / 200
  pub room_limit : c.rows + adds_without_row (rows_of c.rows c.master) (details_of c.batch) ≤ c.limit
  pub slots : detail_count c.batch ≤ length c.verdicts
  pub space : (detail_count c.batch + 1) * 245 ≤ length c.rejects

pub known : (c : Call) → Passed c → Known c
unfolding refusal1 refusal2 refusal3 refusal4 refusal9 refusal10 refusal11
known c p =
    let n : ℕ = length c.master in
    let m : ℕ = c.rows + adds_without_row (rows_of c.rows c.master) (details_of c.batch) in
    let three = or_left (not (eqb (n % 200) 0) || ltb (n / 200) c.rows) (ltb c.limit c.rows) p.no3 in
    let inside = ltb-false (n / 200) c.rows (or_right (not (eqb (n % 200) 0)) (ltb (n / 200) c.rows) three) in
    let five = p.batch_passed.whole in
    let eleven = ltb-false (length c.rejects) (245 * (detail_count c.batch + 1)) p.no11 in
    record {
      year_from = ltb-false c.year 1900 (or_left (ltb c.year 1900) (ltb 9999 c.year) p.no1);
      year_to = ltb-false 9999 c.year (or_right (ltb c.year 1900) (ltb 9999 c.year) p.no1);
      list = not-false (is_local_list c.locals) p.no2;
      master_whole = eqb-true (n % 200) 0 (not-false (eqb (n % 200) 0) (or_left (not (eqb (n % 200) 0)) (ltb (n / 200) c.rows) three));
      rows_in = omega (arith, inside);
      rows_limit = ltb-false c.limit c.rows (or_right (not (eqb (n % 200) 0) || ltb (n / 200) c.rows) (ltb c.limit c.rows) p.no3);
      sound = not-false (are_sound_rows (rows_of c.rows c.master)) p.no4;
      batch_passed = p.batch_passed;
      batch_whole = omega (arith, five.one, five.whole);
      batch_in = omega (arith, five.one, five.whole);
      batch_limit = omega (arith, five.one, five.few);
      room = ltb-false (n / 200) m (or_left (ltb (n / 200) m) (ltb c.limit m) p.no9);
      room_limit = ltb-false c.limit m (or_right (ltb (n / 200) m) (ltb c.limit m) p.no9);
      slots = ltb-false (length c.verdicts) (detail_count c.batch) p.no10;
      space = omega (arith, eleven);
    }
