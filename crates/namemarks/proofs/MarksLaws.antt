-- Coded, sorted, swept and sorted again, the numbers of a key's details are marked in their places. Assumes nothing.
use Prim.Native.Nat.{ℕ, ◌+◌, ◌*◌, ◌/◌, ◌%◌, ◌^◌, ◌≤◌, ◌<◌}
use mathlib.Core.Path.{◌≡◌, sym, ap, ◌∙◌}
use mathlib.Core.Bool.{Bool, cond}
use mathlib.Core.List.{List, map}
use native.Mathlib.Omega.{arith}
use lib.Dec.{eqb}
use lib.ListN.{length, get_or, length-map}
use Rattle.text.specs.ByteNumbers.{AreBytes}
use Rattle.sorting.specs.Sorting.{sorted}
use Rattle.sorting.proofs.SortingLaws.{Different, length-sorted, sorted_strict, sorted_level, sorted-map}
use Rattle.keyorder.specs.Tagged.{index_part}
use Rattle.namemarks.specs.Marks.{rest_part, is_matched, marked, RunDetails}
use Rattle.namemarks.specs.Codes.{name_code, has_giver, swept, NotFalling}
use Rattle.namemarks.proofs.MappedLaws.{get_d_map, map_same, map-map}
use Rattle.namemarks.proofs.AnyLaws.{any_sorted}
use Rattle.namemarks.proofs.CodesLaws.{bit_most, code_index, codes_tell}

-- the index is in the rest
rest_index : (n : ℕ) → rest_part n / 2 ^ 7 ≡ index_part n
rest_index n = omega arith

rest_level : (rank a b x : ℕ) → a / 2 ^ 7 < b / 2 ^ 7 → x ≤ 1 → rank * 2 ^ 32 + a * 2 + x ≤ rank * 2 ^ 32 + b * 2
rest_level rank a b x h l = omega arith

level_of : (rank m n x y : ℕ) → index_part m < index_part n → m ≡ rank * 2 ^ 32 + rest_part m * 2 → n ≡ rank * 2 ^ 32 + rest_part n * 2 → x ≤ 1 → m + x ≤ n + y
level_of rank m n x y h e f l =
    let z = rest_level rank (rest_part m) (rest_part n) x (rw (rest_index m, rest_index n) h) l in
    omega arith

module _ (state batch : List ℕ) (rank : ℕ) (s : List ℕ) (d : RunDetails state batch rank s) where
  abbrev codes : List ℕ
  codes = map (name_code state batch) s

  there : (q : ℕ) → q < length s → index_part (get_or s q 0) * 245 + 245 ≤ length batch
  there q l = d.recorded.there q l

  -- two details have two indexes, and so two codes
  codes_differ : Different codes
  codes_differ i j l h e =
      let w : j < length s = rw (length-map s (name_code state batch)) at h in
      let v : i < length s = omega arith in
      let x = sym (get_d_map (name_code state batch) s i v) ∙ e ∙ get_d_map (name_code state batch) s j w in
      let y : rest_part (get_or s i 0) ≡ rest_part (get_or s j 0) =
      sym (code_index state batch (get_or s i 0)) ∙ ap (λ (n : ℕ). n % 2 ^ 31) x ∙ code_index state batch (get_or s j 0) in
      let z : index_part (get_or s i 0) ≡ index_part (get_or s j 0) =
      sym (rest_index (get_or s i 0)) ∙ ap (λ (n : ℕ). n / 2 ^ 7) y ∙ rest_index (get_or s j 0) in
      omega (arith, d.rising i j l w)

  pub codes_rise : (first second : List ℕ) → first ≡ codes → second ≡ sorted first → NotFalling (length second) second
  codes_rise first second e f q p l h =
      let k : p < length codes = rw (f, e, length-sorted codes) at h in
      let m = sorted_strict codes codes_differ q p l k in
      rw (f, e) (omega (arith, m))

  module _ (bytes : AreBytes batch) where
    -- a code swept is the number that it was made of, with the mark
    swept-marked : (q : ℕ) → q < length s → swept rank codes (name_code state batch (get_or s q 0)) ≡ marked state batch s (get_or s q 0)
    swept-marked q l =
        rw (codes_tell state batch s (get_or s q 0) bytes there (there q l), code_index state batch (get_or s q 0), ← d.alone q l)

    marked_level : (q r : ℕ) → q < r → r < length (map (marked state batch s) s)
        → get_or (map (marked state batch s) s) q 0 ≤ get_or (map (marked state batch s) s) r 0
    marked_level q r l h =
        let w : r < length s = rw (length-map s (marked state batch s)) at h in
        let v : q < length s = omega arith in
        rw (get_d_map (marked state batch s) s q v, get_d_map (marked state batch s) s r w)
        (level_of rank (get_or s q 0) (get_or s r 0) _ _ (d.rising q r l w) (d.alone q v) (d.alone r w) (bit_most (is_matched state batch s (get_or s q 0)) 1 0 (omega arith) (omega arith)))

    marked_all : sorted (map (swept rank (sorted codes)) (sorted codes)) ≡ map (marked state batch s) s
    unfolding has_giver
    marked_all =
        let same = map_same (swept rank (sorted codes)) (swept rank codes) (sorted codes)
        (λ q l. ap (λ (t : Bool). rank * 2 ^ 32 + get_or (sorted codes) q 0 % 2 ^ 31 * 2 + cond t 1 0) (any_sorted (λ y. eqb (y / 2 ^ 31) (get_or (sorted codes) q 0 / 2 ^ 32 * 2)) codes)) in
        ap sorted same
        ∙ sorted-map (swept rank codes) codes
        ∙ ap sorted (map-map (swept rank codes) (name_code state batch) s ∙ map_same (λ n. swept rank codes (name_code state batch n)) (marked state batch s) s swept-marked)
        ∙ sorted_level (map (marked state batch s) s) marked_level

    -- the four passes, one behind the other
    pub passes : (first second third last : List ℕ) → first ≡ codes → second ≡ sorted first → third ≡ map (swept rank second) second
        → last ≡ sorted third → last ≡ map (marked state batch s) s
    passes first second third last e f g h = rw (h, g, f, e) marked_all
