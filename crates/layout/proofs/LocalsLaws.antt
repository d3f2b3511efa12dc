-- Laws of a list of codes of one width: whether they are digits, and how a code is looked up among them. Assumes nothing.
use mathlib.Core.Path.{◌≡◌, refl, sym, ap, ◌∙◌}
use mathlib.Core.Bool.{Bool, true, false, ◌&&◌, and_assoc, or-true, true≢false}
use mathlib.Core.List.{List, [], ◌∷◌, ◌++◌, map}
use mathlib.Core.Logic.{⊎_elim}
use Prim.Native.Nat.{ℕ, zero, suc, ◌+◌, ◌*◌, ◌/◌, ◌%◌, ◌≤◌, ◌<◌, zero-le, suc-le-suc}
use native.Mathlib.Nat.{suc-mul, zero-mul, le_of_suc-le-suc, not-suc-le-zero, zero-lt-suc}
use native.Mathlib.Numerals.{add-one}
use native.Mathlib.Omega.{arith}
use borrow.Author.Tests.{eq-eqb}
use lib.Dec.{eqb}
use lib.ListN.{length, take, drop, get_or, length-drop}
use lib.Seq.{length-take-le, take-add, take-length}
use Rattle.std.specs.Simd.{first_chunks}
use Rattle.std.specs.List.{list_any}
use Rattle.std.specs.List.Sorted.{IsNonDecreasingBy, IsBinarySearchResult, IsSearchInRange}
use Rattle.std.specs.Ordering.{nat_cmp, is_lt, is_eq, ordering_index}
use Rattle.std.specs.declared.cmp.Ordering.{Ordering}
use Rattle.std.specs.declared.cmp.Ordering.TheVariants.{Less, Greater}
use Rattle.std.specs.Prelude.{Result, Ok, Err, is_ok}
use Rattle.std.specs.Cmp.Lexicographic.{slice_cmp, pointwise, bytes_decides, texts_ties, nat_list_cmp_total}
use Rattle.std.specs.FinMap.{slice_cmp-IsAntisymmetric, nat_cmp-IsAntisymmetric}
use Rattle.std.proofs.lemmas.List.Sorted.{searchable_from_sorted}
use Rattle.std.proofs.lemmas.Bool.{cases_lt}
use Rattle.text.specs.Characters.{is_digit}
use Rattle.text.specs.Fields.{every, all_digits, are_digits, same_bytes, is_one_of}
use Rattle.text.specs.Blocks.{blocks}
use Rattle.text.specs.ByteOrder.{below_first, rising}
use Rattle.layout.specs.Locals.{codes_of_list, is_listed, is_local_list}
use Rattle.text.proofs.BlocksLaws.{blocks_whole}
use Rattle.text.proofs.ByteOrderLaws.{not_below}
use Rattle.text.proofs.FieldsLaws.{and_left, and_right}
use Rattle.text.proofs.SameLaws.{eq_same, same_eq, same_lengths}

pub every_append : (f : ℕ → Bool) (a b : List ℕ) → every f (a ++ b) ≡ (every f a && every f b)
every_append f [] b = refl
every_append f (x ∷ a) b = rw (every_append f a b) (sym (and_assoc (f x) (every f a) (every f b)))

module _ (w : ℕ) where
  -- each of n codes is w digits where their bytes are digits
  pub digits_blocks : (n : ℕ) (xs : List ℕ) → n * w ≤ length xs
      → every (are_digits w) (blocks w n xs) ≡ all_digits (take (n * w) xs)
  unfolding blocks are_digits all_digits
  digits_blocks zero xs h = rw zero-mul
  digits_blocks (suc n) xs h =
      let e : suc n * w ≡ w + n * w = omega (arith, suc-mul n w) in
      let k : w ≤ length xs = omega arith in
      let r : n * w ≤ length (drop w xs) = rw (length-drop w xs) (omega arith) in
      rw (e, take-add w (n * w) xs, every_append is_digit (take w xs) (take (n * w) (drop w xs)))
      (rw (← digits_blocks n (drop w xs) r, length-take-le w xs k, eq-eqb w w refl))

-- a list of whole codes passes where its bytes are digits and its codes, each with all of its three bytes as key, rise
pub local_list : (s : List ℕ) → length s % 3 ≡ 0
    → is_local_list s ≡ (all_digits s && rising (map (take 3) (blocks 3 (length s / 3) s)))
unfolding is_local_list codes_of_list
local_list s h =
    let e : length s / 3 * 3 ≡ length s = omega arith in
    let d : all_digits (take (length s / 3 * 3) s) ≡ all_digits s = rw (e, take-length s) in
    rw (eq-eqb (length s % 3) 0 h, digits_blocks 3 (length s / 3) s (omega arith), d, blocks_whole 3 (length s / 3) s)

-- ---- the codes as the library's chunks

chunks-blocks : (w n : ℕ) (xs : List ℕ) → first_chunks w n xs ≡ blocks w n xs
unfolding blocks
chunks-blocks w zero xs = refl
chunks-blocks w (suc n) xs = ap (λ (bs : List (List ℕ)). take w xs ∷ bs) (chunks-blocks w n (drop w xs))

list_chunks : (list : List ℕ) → first_chunks 3 (length list / 3) list ≡ codes_of_list list
unfolding codes_of_list
list_chunks list = chunks-blocks 3 (length list / 3) list

-- ---- a code looked up among others: read from the first on

both_so : (a b : Bool) → (a ≡ true → b ≡ true) → (b ≡ true → a ≡ true) → a ≡ b
both_so true b f g = sym (f refl)
both_so false true f g = g refl
both_so false false f g = refl

-- the library's test of two lists
pointwise-same : (t s : List ℕ) → pointwise eqb t s ≡ same_bytes s t
pointwise-same t s =
    both_so (pointwise eqb t s) (same_bytes s t) (λ h. eq_same s t (sym ((bytes_decides t s).0 h)))
    (λ h. (bytes_decides t s).1 (sym (same_eq s t h)))

any-one_of : (s : List ℕ) (ts : List (List ℕ)) → list_any (λ t. pointwise eqb t s) ts ≡ is_one_of s ts
unfolding is_one_of
any-one_of s [] = refl
any-one_of s (t ∷ ts) = rw (pointwise-same t s, any-one_of s ts) refl

-- what has another length than the blocks is not one of them
no_width : (w : ℕ) (s : List ℕ) → (length s ≡ w → ⊥) → (n : ℕ) (xs : List ℕ) → n * w ≤ length xs → is_one_of s (blocks w n xs) ≡ false
unfolding is_one_of blocks
no_width w s h zero xs l = refl
no_width w s h (suc n) xs l =
    let e = suc-mul n w in
    let r : n * w ≤ length (drop w xs) = rw (length-drop w xs) (omega (arith, e)) in
    rw (same_lengths s (take w xs) (λ g. h (g ∙ length-take-le w xs (omega (arith, e)))), no_width w s h n (drop w xs) r) refl

-- ---- and by halving

rising_next : (ts : List (List ℕ)) → rising ts ≡ true → (k : ℕ) (d : List ℕ) → suc k < length ts
    → is_lt (slice_cmp nat_cmp (get_or ts (suc k) d) (get_or ts k d)) ≡ false
unfolding rising below_first
rising_next [] t k d l = absurd (not-suc-le-zero l)
rising_next (s ∷ []) t k d l = absurd (not-suc-le-zero (le_of_suc-le-suc l))
rising_next (s ∷ u ∷ ts) t zero d l = not_below s u (and_left _ _ t)
rising_next (s ∷ u ∷ ts) t (suc k) d l = rising_next (u ∷ ts) (and_right _ _ t) k d (le_of_suc-le-suc l)

-- codes that rise may be halved
may_halve : (s : List ℕ) (ts : List (List ℕ)) → rising ts ≡ true → IsNonDecreasingBy (λ t. ordering_index (slice_cmp nat_cmp t s)) ts
may_halve s ts t =
    searchable_from_sorted nat_list_cmp_total (λ (u : List ℕ). u) ts s (λ k d l h. rw (add-one k) (rising_next ts t k d (omega arith)))

one_of_at : (s : List ℕ) (ts : List (List ℕ)) (k : ℕ) → k < length ts → get_or ts k [] ≡ s → is_one_of s ts ≡ true
unfolding is_one_of
one_of_at s [] k h e = absurd (not-suc-le-zero h)
one_of_at s (t ∷ ts) zero h e = rw (eq_same s t (sym e)) refl
one_of_at s (t ∷ ts) (suc k) h e = rw (one_of_at s ts k (le_of_suc-le-suc h) e) (or-true (same_bytes s t))

one_of_none : (s : List ℕ) (ts : List (List ℕ)) → ((k : ℕ) → k < length ts → get_or ts k [] ≡ s → ⊥) → is_one_of s ts ≡ false
unfolding is_one_of
one_of_none s [] h = refl
one_of_none s (t ∷ ts) h =
    let e : same_bytes s t ≡ false = not_so (same_bytes s t) (λ f. h zero (zero-lt-suc (length ts)) (sym (same_eq s t f))) in
    rw (e, one_of_none s ts (λ k b. h (suc k) (suc-le-suc b))) refl
  where
    not_so : (a : Bool) → (a ≡ true → ⊥) → a ≡ false
    not_so true f = absurd (f refl)
    not_so false f = refl

-- what the library's search answers
found-one_of : (s : List ℕ) (ts : List (List ℕ)) (r : Result ℕ ℕ) → rising ts ≡ true → IsSearchInRange r (length ts)
    → IsBinarySearchResult (λ t. slice_cmp nat_cmp t s) ts r → is_ok r ≡ is_one_of s ts
found-one_of s ts (Ok i) t b h = sym (one_of_at s ts i b (slice_cmp-IsAntisymmetric nat_cmp-IsAntisymmetric _ _ (h [])))
found-one_of s ts (Err i) t b h =
    let p = h (may_halve s ts t) in
    sym (one_of_none s ts (λ k l e.
    ⊎_elim (λ (m : k < i). other (get_or ts k []) Less (p.0 k [] zero-le m) refl e) (λ (m : i ≤ k). other (get_or ts k []) Greater (p.1 k [] m l) refl e)
    (cases_lt k i)))
  where
    other : (u : List ℕ) (o : Ordering) → slice_cmp nat_cmp u s ≡ o → is_eq o ≡ false → u ≡ s → ⊥
    other u o e f g =
        let h : is_eq (slice_cmp nat_cmp u s) ≡ true = sym (texts_ties u s) ∙ (bytes_decides u s).1 g in
        true≢false (sym h ∙ ap is_eq e ∙ f)

-- ---- a code of three bytes, s, among the list's chunks

module _ (list code s : List ℕ) (codes : List (List ℕ)) (e : s ≡ code) (f : codes ≡ first_chunks 3 (length list / 3) list) where
  are_codes : codes ≡ codes_of_list list
  are_codes = f ∙ list_chunks list

  pub listed_read : list_any (λ t. pointwise eqb t s) codes ≡ is_listed code list
  unfolding is_listed
  listed_read = rw (any-one_of s codes, are_codes, e) refl

  pub listed_found : (r : Result ℕ ℕ) → is_local_list list ≡ true → IsSearchInRange r (length codes)
      → IsBinarySearchResult (λ t. slice_cmp nat_cmp t s) codes r → is_ok r ≡ is_listed code list
  unfolding is_listed is_local_list
  listed_found r t b h =
      let c = codes_of_list list in
      let up : rising c ≡ true = and_right (every (are_digits 3) c) (rising c) (and_right (eqb (length list % 3) 0) _ t) in
      found-one_of s codes r (rw are_codes up) b h ∙ rw (are_codes, e) refl

-- a code of another length is not listed
pub not_listed : (list code : List ℕ) → (length code ≡ 3 → ⊥) → is_listed code list ≡ false
unfolding is_listed codes_of_list
not_listed list code h = no_width 3 code h (length list / 3) list (omega arith)
