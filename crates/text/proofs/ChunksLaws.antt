-- Laws of a walk over bytes by the library's chunks of one width: they are the blocks, each in its place. Assumes nothing.
use mathlib.Core.Path.{◌≡◌, refl, ap, subst, ◌∙◌}
use mathlib.Core.Bool.{Bool, ◌&&◌}
use mathlib.Core.List.{List, [], ◌∷◌, ◌++◌}
use Prim.Native.Nat.{ℕ, suc, ◌+◌, ◌*◌, ◌/◌, ◌≤◌, ◌<◌}
use native.Mathlib.Nat.{le_refl, zero-add, add-div_left, div-eq_of_lt, mul-div_cancel}
use native.Mathlib.Omega.{arith}
use lib.ListN.{length, take, drop, length-append, length-drop}
use lib.Seq.{take_at, drop_at, length-take-le}
use denote.Ref.{Bor}
use Rattle.std.proofs.Common.{Option, Some, None}
use Rattle.std.specs.Iterator.{Yields}
use Rattle.std.specs.Iterator.Adapters.{enumerate_source, enumerate_count, enumerate_steps}
use Rattle.std.specs.List.{list_all, enumerate_from}
use Rattle.std.specs.Slice.Iter.{chunks_exact_steps, chunks_exact_rest, chunks_exact_size}
use Rattle.std.specs.declared.slice.ChunksExact.{ChunksExact}
use Rattle.std.specs.declared.iter.Enumerate.{Enumerate}
use Rattle.std.proofs.lemmas.List.{get_or_default}
use Rattle.std.proofs.lemmas.List.FromFn.{get_or-enumerate_from, length-enumerate_from}
use Rattle.std.proofs.lemmas.Iterator.{YieldsList}
use Rattle.std.proofs.lemmas.Iterator.Consumers.{YieldsList-at, YieldsList-from_enumerate, YieldsList-turn, YieldsList-end}
use Rattle.std.proofs.lemmas.Iterator.Splits.{YieldsList-from_shown_while}
use Rattle.text.specs.Blocks.{blocks}
use Rattle.text.specs.Fields.{every}
use Rattle.text.proofs.BlocksLaws.{inside, length-blocks, blocks_prefix, blocks_get}

module _ (width : ℕ) (some : 0 < width) where
  -- whole blocks only
  all_blocks : List ℕ → List (List ℕ)
  all_blocks xs = blocks width (length xs / width) xs

  few : (l : ℕ) → l < width → l / width ≡ 0
  few l h = div-eq_of_lt h

  one_less : (l : ℕ) → (width + l) / width ≡ suc (l / width)
  one_less l = omega (arith, add-div_left l some)

  none_left : (xs : List ℕ) → length xs < width → length (all_blocks xs) ≡ 0
  unfolding all_blocks
  none_left xs h = length-blocks width (length xs / width) xs ∙ few (length xs) h

  first_block : (xs x rest : List ℕ) → xs ≡ x ++ rest → length x ≡ width → all_blocks xs ≡ x ∷ all_blocks rest
  unfolding all_blocks blocks
  first_block xs x rest e w =
      let l : length xs ≡ width + length rest = ap length e ∙ length-append x rest ∙ ap (λ (n : ℕ). n + length rest) w in
      let n : length xs / width ≡ suc (length rest / width) = ap (λ (k : ℕ). k / width) l ∙ one_less (length rest) in
      ap (λ (k : ℕ). blocks width k xs) n
      ∙ ap (blocks width (suc (length rest / width))) e
      ∙ (λ i. take_at x rest width w i ∷ blocks width (length rest / width) (drop_at x rest width w i))

  front_blocks : (n : ℕ) (bytes : List ℕ) → n * width ≤ length bytes → all_blocks (take (n * width) bytes) ≡ blocks width n bytes
  unfolding all_blocks
  front_blocks n bytes long = ap (λ (k : ℕ). blocks width k (take (n * width) bytes)) (ap (λ (l : ℕ). l / width) (length-take-le (n * width) bytes long) ∙ mul-div_cancel n some) ∙ blocks_prefix width n bytes

  module _ (n : ℕ) (bytes : List ℕ) (long : n * width ≤ length bytes) (s : ChunksExact ℕ)
      (size : chunks_exact_size s ≡ width) (rest : chunks_exact_rest s ≡ take (n * width) bytes) where
    -- what chunks of the first n blocks yield
    pub chunks_yielded : YieldsList (chunks_exact_steps {A = ℕ}) (λ x. x.now) s (blocks width n bytes)
    chunks_yielded =
        subst (YieldsList (chunks_exact_steps {A = ℕ}) (λ x. x.now) s) (ap all_blocks rest ∙ front_blocks n bytes long)
        (YieldsList-from_shown_while chunks_exact_steps (λ x. x.now) (λ t. all_blocks (chunks_exact_rest t)) (λ t. chunks_exact_size t ≡ width)
        (λ t u h k. none_left (chunks_exact_rest t) (omega (arith, k.1.0)))
        (λ t x u h k. (k.0 ∙ h, first_block (chunks_exact_rest t) x.now (chunks_exact_rest u) k.1.0 (k.1.1 ∙ h)))
        s size)

    chunk_wide : (i : ℕ) → i < n → length (take width (drop (i * width) bytes)) ≡ width
    chunk_wide i l = length-take-le width (drop (i * width) bytes) (omega (arith, length-drop (i * width) bytes, inside width l long (le_refl width)))

    -- the next of them, behind those yielded by a walk that began there
    module _ (w : ChunksExact ℕ) (began : w ≡ s) (xs : List (Bor (List ℕ))) (t : ChunksExact ℕ) (y : Yields (chunks_exact_steps {A = ℕ}) w xs t)
        (r : Option (Bor (List ℕ))) (u : ChunksExact ℕ) (step : chunks_exact_steps t r u) where
      walk : YieldsList (chunks_exact_steps {A = ℕ}) (λ x. x.now) w (blocks width n bytes)
      walk = YieldsList-at began chunks_yielded

      pub chunk_here : (x : Bor (List ℕ)) → r ≡ Some x → (length xs < n) × (x.now ≡ take width (drop (length xs * width) bytes)) × (length x.now ≡ width)
      chunk_here x e =
          let h = YieldsList-turn walk xs t y r u x e step in
          let l : length xs < n = omega (arith, h.0, length-blocks width n bytes) in
          let e : x.now ≡ take width (drop (length xs * width) bytes) =
          h.1 ∙ get_or_default (blocks width n bytes) (length xs) x.now [] h.0 ∙ blocks_get width n bytes (length xs) l in
          (l, e, ap length e ∙ chunk_wide (length xs) l)

      pub chunks_end : r ≡ None → length xs ≡ n
      chunks_end e = (YieldsList-end walk xs t y r u e step).1 ∙ length-blocks width n bytes

    -- the same of a walk that counts them
    module _ (v w : Enumerate (ChunksExact ℕ)) (source : enumerate_source v ≡ s) (zeroth : enumerate_count v ≡ 0) (began : w ≡ v)
        (xs : List (ℕ × Bor (List ℕ))) (t : Enumerate (ChunksExact ℕ)) (y : Yields (enumerate_steps (chunks_exact_steps {A = ℕ})) w xs t)
        (r : Option (ℕ × Bor (List ℕ))) (u : Enumerate (ChunksExact ℕ)) (step : enumerate_steps (chunks_exact_steps {A = ℕ}) t r u) where
      counted : YieldsList {B = ℕ × List ℕ} (enumerate_steps (chunks_exact_steps {A = ℕ})) (λ p. (p.0, p.1.now)) w (enumerate_from 0 (blocks width n bytes))
      counted = YieldsList-at began (YieldsList-from_enumerate (YieldsList-at source chunks_yielded) zeroth)

      pub numbered_here : (x : ℕ × Bor (List ℕ)) → r ≡ Some x
          → (length xs < n) × (x.0 ≡ length xs) × (x.1.now ≡ take width (drop (length xs * width) bytes)) × (length x.1.now ≡ width)
      numbered_here x e =
          let h = YieldsList-turn counted xs t y r u x e step in
          let l : length xs < n = omega (arith, h.0, length-enumerate_from 0 (blocks width n bytes), length-blocks width n bytes) in
          let i : length xs < length (blocks width n bytes) = omega (arith, h.0, length-enumerate_from 0 (blocks width n bytes)) in
          let g = h.1 ∙ get_or-enumerate_from 0 (blocks width n bytes) (length xs) (x.0, x.1.now) i in
          let f : x.1.now ≡ take width (drop (length xs * width) bytes) =
          ap (λ (p : ℕ × List ℕ). p.1) g ∙ get_or_default (blocks width n bytes) (length xs) x.1.now [] i ∙ blocks_get width n bytes (length xs) l in
          (l, ap (λ (p : ℕ × List ℕ). p.0) g ∙ zero-add (length xs), f, ap length f ∙ chunk_wide (length xs) l)

      pub numbered_end : r ≡ None → length xs ≡ n
      numbered_end e = (YieldsList-end counted xs t y r u e step).1 ∙ length-enumerate_from 0 (blocks width n bytes) ∙ length-blocks width n bytes

-- the library's test of all
pub every-all : {X : Type 0} (f : X → Bool) (xs : List X) → list_all f xs ≡ every f xs
every-all f [] = refl
every-all f (x ∷ xs) = ap (λ (b : Bool). f x && b) (every-all f xs)
