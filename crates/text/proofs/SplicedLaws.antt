-- Laws of bytes spliced in over others and of a part cut out. Assumes nothing.
use mathlib.Core.Path.{◌≡◌, refl, sym, ap, ◌∙◌}
use mathlib.Core.List.{List, [], ◌∷◌, ◌++◌, append_assoc, append-nil}
use Prim.Native.Nat.{ℕ, zero, suc, ◌+◌, ◌-◌, ◌≤◌, ◌<◌}
use native.Mathlib.Nat.{suc-add, zero-add}
use native.Mathlib.Numerals.{add-one}
use native.Mathlib.Omega.{arith}
use lib.ListN.{length, take, drop, set, length-append, length-take, length-drop, drop_of_length-le, take-append-drop}
use lib.Seq.{paste, length-take-le, take-length, take_at, drop_at, take-nil, drop-drop, take-suc-set, drop-set-lt, set_split}
use Rattle.text.specs.Blocks.{spliced}

module _ (d : List ℕ) (at : ℕ) (s : List ℕ) where
  -- the whole of a copy is a splice
  pub paste_spliced : (n : ℕ) → n ≡ length s → paste d at s n ≡ spliced d at s
  unfolding spliced
  paste_spliced n e = rw (e, take-length s) (append_assoc (take at d) s (drop (at + length s) d))

  pub length-spliced : at + length s ≤ length d → length (spliced d at s) ≡ length d
  unfolding spliced
  length-spliced h = simp (length-append, length-take, length-drop) (omega arith)

  pub take-spliced : at ≤ length d → take at (spliced d at s) ≡ take at d
  unfolding spliced
  take-spliced h = take_at (take at d) (s ++ drop (at + length s) d) at (length-take-le at d h)

  -- the bytes up to the end of those spliced in
  pub take_through : (n : ℕ) → at ≤ length d → n ≡ at + length s → take n (spliced d at s) ≡ take at d ++ s
  unfolding spliced
  take_through n h e =
      ap (take n) (sym (append_assoc (take at d) s (drop (at + length s) d)))
      ∙ take_at (take at d ++ s) (drop (at + length s) d) n (simp (length-append, length-take) (omega arith))

  pub drop-spliced : (n : ℕ) → at ≤ length d → at + length s ≤ n → drop n (spliced d at s) ≡ drop n d
  unfolding spliced
  drop-spliced n h k =
      let p : List ℕ = take at d ++ s in
      let lp : length p ≡ at + length s = simp (length-append, length-take) (omega arith) in
      let q : List ℕ = drop (at + length s) d in
      let m : ℕ = n - (at + length s) in
      let em : n ≡ at + length s + m = omega arith in
      ap (drop n) (sym (append_assoc (take at d) s q))
      ∙ ap (λ (z : ℕ). drop z (p ++ q)) em
      ∙ sym (drop-drop m (at + length s) (p ++ q))
      ∙ ap (drop m) (drop_at p q (at + length s) lp)
      ∙ drop-drop m (at + length s) d
      ∙ ap (λ (z : ℕ). drop z d) (sym em)

-- nothing spliced in
pub spliced_none : (d : List ℕ) (at : ℕ) → d ≡ spliced d at []
unfolding spliced
spliced_none d at = let z : at + 0 ≡ at = omega arith in rw z (sym (take-append-drop at d))

-- bytes as many as there are take the place of all
pub spliced_whole : (d s : List ℕ) → length s ≡ length d → spliced d 0 s ≡ s
unfolding spliced
spliced_whole d s h = ap (λ (z : List ℕ). s ++ z) (drop_of_length-le d {i = 0 + length s} (omega arith)) ∙ append-nil s

-- a byte set, and bytes spliced in behind it
pub spliced-cons : (d : List ℕ) (i x : ℕ) (s : List ℕ) → i < length d → spliced (set d i x) (i + 1) s ≡ spliced d i (x ∷ s)
unfolding spliced
spliced-cons d i x s h =
    let e : i + suc (length s) ≡ suc i + length s = omega arith in
    rw (add-one i, take-suc-set d i x h, e, drop-set-lt (suc i + length s) d i x (omega arith))
    (append_assoc (take i d) (x ∷ []) (s ++ drop (suc i + length s) d))

pub spliced_one : (d : List ℕ) (i x : ℕ) → i < length d → set d i x ≡ spliced d i (x ∷ [])
unfolding spliced
spliced_one d i x h = let e : i + 1 ≡ suc i = omega arith in rw e (set_split d i x h)

-- bytes spliced in behind others that were
spliced_is : (d : List ℕ) (n : ℕ) (s : List ℕ) → spliced d n s ≡ take n d ++ (s ++ drop (n + length s) d)
unfolding spliced
spliced_is d n s = refl

pub spliced_then : (d : List ℕ) (at n : ℕ) (a b : List ℕ) → n ≡ at + length a → at + length a ≤ length d
    → spliced (spliced d at a) n b ≡ spliced d at (a ++ b)
spliced_then d at n a b e h =
    let x : List ℕ = spliced d at a in
    let l : n + length b ≡ at + length (a ++ b) = rw (length-append a b) (omega arith) in
    spliced_is x n b
    ∙ ap (λ (z : List ℕ). z ++ (b ++ drop (n + length b) x)) (take_through d at a n (omega arith) e)
    ∙ ap (λ (z : List ℕ). (take at d ++ a) ++ (b ++ z)) (drop-spliced d at a (n + length b) (omega arith) (omega arith) ∙ ap (λ (z : ℕ). drop z d) l)
    ∙ append_assoc (take at d) a (b ++ drop (at + length (a ++ b)) d)
    ∙ ap (λ (z : List ℕ). take at d ++ z) (sym (append_assoc a b (drop (at + length (a ++ b)) d)))
    ∙ sym (spliced_is d at (a ++ b))

-- a part copied out whole, over all of d
pub cut_out : (d m : List ℕ) (a e w : ℕ) → e ≡ a + w → e ≤ length m → length d ≡ w
    → spliced d 0 (take (e - a) (drop a m)) ≡ take w (drop a m)
cut_out d m a e w h k l =
    let ew : e - a ≡ w = omega arith in
    let lt : length (take w (drop a m)) ≡ w = simp (length-take, length-drop) (omega arith) in
    rw ew (spliced_whole d (take w (drop a m)) (omega arith))

pub drop-take : (m n : ℕ) (l : List ℕ) → drop m (take (m + n) l) ≡ take n (drop m l)
drop-take zero n l = rw zero-add
drop-take (suc m) n [] = rw suc-add (sym (take-nil n))
drop-take (suc m) n (x ∷ l) = rw suc-add (drop-take m n l)
