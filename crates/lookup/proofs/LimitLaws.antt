-- The code's limit is below the answer for a key without a row, and under such a limit no place in a master that 3 doesn't refuse is that answer.
-- Assumes nothing.
use Prim.Native.Nat.{ℕ, ◌<◌}
use mathlib.Core.Path.{◌≡◌}
use mathlib.Core.List.{List}
use native.Mathlib.Omega.{arith}
use Rattle.layout.specs.Limits.{max_rows}
use Rattle.layout.proofs.LimitsLaws.{few_details}
use Rattle.casemaster.specs.Refusals.{master_refusal}
use Rattle.casemaster.proofs.RefusalsLaws.{master_limit}
use Rattle.lookup.specs.Many.{no_place}

pub few_places : max_rows < no_place
few_places = omega (arith, few_details)

pub rows_few : (limit : ℕ) → limit < no_place → (master : List ℕ) (rows : ℕ) → master_refusal limit master rows 0 ≡ 0 → rows < no_place
rows_few limit l master rows e = omega (arith, master_limit limit master rows e)
