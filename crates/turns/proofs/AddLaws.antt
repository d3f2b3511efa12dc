-- Records of type A: a batch adds at most one row for each. Assumes nothing.
use Prim.Native.Nat.{ℕ, ◌+◌, ◌*◌, ◌≤◌, ◌<◌}
use mathlib.Core.Path.{◌≡◌, ap}
use mathlib.Core.Bool.{Bool, true, false, cond, ◌&&◌}
use mathlib.Core.List.{List, [], ◌∷◌}
use native.Mathlib.Omega.{arith}
use lib.ListN.{take, drop, drop_of_length-le}
use Rattle.text.specs.Characters.{A}
use Rattle.text.specs.Blocks.{blocks}
use Rattle.text.proofs.BlocksLaws.{length-blocks, blocks-next}
use Rattle.layout.specs.Record.{is_type}
use Rattle.turns.specs.Adds.{is_new, adds_without_row, add_count}

both_most : (a b : Bool) → cond (a && b) 1 0 ≤ cond a 1 0
both_most true true = omega arith
both_most true false = omega arith
both_most false b = omega arith

-- the rows to come are at most as many as the records of type A
pub new_most_adds : (rows details : List (List ℕ)) → adds_without_row rows details ≤ add_count details
unfolding add_count adds_without_row
new_most_adds rows [] = omega arith
new_most_adds rows (detail ∷ details) =
    let one : cond (is_new rows detail) 1 0 ≤ cond (is_type A detail) 1 0 = both_most (is_type A detail) _ in
    omega (arith, one, new_most_adds rows details)

module _ (batch : List ℕ) (d : ℕ) where
  abbrev details : List (List ℕ)
  details = blocks 245 d batch

  pub adds-next : (i : ℕ) → i < d
      → add_count (drop i details) ≡ cond (is_type A (take 245 (drop (i * 245) batch))) 1 0 + add_count (drop (i + 1) details)
  unfolding add_count
  adds-next i l = ap add_count (blocks-next 245 d batch i l)

  pub adds_end : (i : ℕ) → d ≤ i → add_count (drop i details) ≡ 0
  unfolding add_count
  adds_end i l = ap add_count (drop_of_length-le details {i = i} (rw (length-blocks 245 d batch) l))
