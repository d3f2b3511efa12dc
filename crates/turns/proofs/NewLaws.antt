-- Counting the A records whose key has a row, and those whose key has none. Assumes nothing.
use Prim.Native.Nat.{ℕ, ◌+◌, ◌-◌, ◌*◌, ◌≤◌, ◌<◌}
use mathlib.Core.Path.{◌≡◌, refl, ap, ◌∙◌}
use mathlib.Core.Bool.{true, false}
use mathlib.Core.List.{List, [], ◌∷◌}
use mathlib.Core.Option.{none, some}
use native.Mathlib.Omega.{arith}
use lib.Dec.{lit≤}
use lib.ListN.{take, drop, get_or, drop_of_length-le}
use lib.Seq.{get_or-take, get_or-drop}
use Rattle.text.specs.Characters.{A}
use Rattle.text.specs.Blocks.{blocks}
use Rattle.casemaster.specs.Rows.{place_with}
use Rattle.text.proofs.BlocksLaws.{blocks-next, length-blocks}
use Rattle.casemaster.proofs.SearchLaws.{place_row, no_place-row}
use Rattle.layout.specs.Record.{is_type, type_of, record_key}
use Rattle.turns.proofs.AddLaws.{new_most_adds, adds_end}
use Rattle.turns.specs.Adds.{adds_without_row, add_count}

-- a record's type, read in the batch
pub type_in : (batch : List ℕ) (i : ℕ) → type_of (take 245 (drop (i * 245) batch)) ≡ get_or batch (i * 245 + 72) 0
type_in batch i = get_or-take 245 (drop (i * 245) batch) 72 0 (lit≤ tt) ∙ get_or-drop (i * 245) batch 72 0

module _ (rows : List (List ℕ)) (rec : List ℕ) where
  -- 1 for an A record whose key has a row, 0 for any other record
  pub row_other : is_type A rec ≡ false → 0 + adds_without_row rows (rec ∷ []) ≡ add_count (rec ∷ [])
  unfolding adds_without_row add_count
  row_other t = rw t

  pub row_found : is_type A rec ≡ true → (p : ℕ) → place_with (record_key rec) rows ≡ some p
      → 1 + adds_without_row rows (rec ∷ []) ≡ add_count (rec ∷ [])
  unfolding adds_without_row add_count
  row_found t p e = rw (t, place_row (record_key rec) rows p e)

  pub row_missing : is_type A rec ≡ true → place_with (record_key rec) rows ≡ none
      → 0 + adds_without_row rows (rec ∷ []) ≡ add_count (rec ∷ [])
  unfolding adds_without_row add_count
  row_missing t e = rw (t, no_place-row (record_key rec) rows e)

  new_cons : (details : List (List ℕ)) → adds_without_row rows (rec ∷ details) ≡ adds_without_row rows (rec ∷ []) + adds_without_row rows details
  unfolding adds_without_row
  new_cons details = omega arith

new_none : (rows : List (List ℕ)) → adds_without_row rows [] ≡ 0
unfolding adds_without_row
new_none rows = refl

adds-cons : (rec : List ℕ) (details : List (List ℕ)) → add_count (rec ∷ details) ≡ add_count (rec ∷ []) + add_count details
unfolding add_count
adds-cons rec details = omega arith

-- the rows there are, with those that come of the details before i and one for each A record from i on
abbrev pub Counted : List (List ℕ) → List (List ℕ) → ℕ → ℕ → ℕ → Type 0
Counted rows details n i r = r + adds_without_row rows (drop i details) ≡ n + adds_without_row rows details + add_count (drop i details)

-- they are no fewer than in the end
pub counted-most : (rows details : List (List ℕ)) (n i r : ℕ) → Counted rows details n i r → n + adds_without_row rows details ≤ r
counted-most rows details n i r e = omega (arith, e, new_most_adds rows (drop i details))

module _ (rows : List (List ℕ)) (batch : List ℕ) (d n i r : ℕ) (e : Counted rows (blocks 245 d batch) n i r) where
  abbrev rec : List ℕ
  rec = take 245 (drop (i * 245) batch)

  abbrev rest : List (List ℕ)
  rest = drop (i + 1) (blocks 245 d batch)

  -- an A record whose key has a row is taken off
  pub counted_next : i < d → (h : ℕ) → h + adds_without_row rows (rec ∷ []) ≡ add_count (rec ∷ [])
      → (h ≤ r) × Counted rows (blocks 245 d batch) n (i + 1) (r - h)
  counted_next l h t =
      let new = ap (adds_without_row rows) (blocks-next 245 d batch i l) ∙ new_cons rows rec rest in
      let all = ap add_count (blocks-next 245 d batch i l) ∙ adds-cons rec rest in
      let least = new_most_adds rows rest in
      (omega arith, omega arith)

  pub counted_end : d ≤ i → r ≡ n + adds_without_row rows (blocks 245 d batch)
  counted_end l =
      let none : drop i (blocks 245 d batch) ≡ [] = drop_of_length-le (blocks 245 d batch) {i = i} (rw (length-blocks 245 d batch) l) in
      let new : adds_without_row rows (drop i (blocks 245 d batch)) ≡ 0 = ap (adds_without_row rows) none ∙ new_none rows in
      let all = adds_end batch d i l in
      omega arith
