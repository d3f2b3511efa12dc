-- Laws of names written one behind the other, parted by commas: what is written and what is left to write make the whole. Assumes nothing.
use Prim.Native.Nat.{ℕ, suc, ◌+◌, ◌-◌, ◌/◌, ◌%◌, ◌≤◌, ◌<◌}
use mathlib.Core.Path.{◌≡◌, refl, sym, ap, ◌∙◌}
use mathlib.Core.List.{List, [], ◌∷◌, ◌++◌, append_assoc, append-nil}
use mathlib.Core.Bool.{Bool, true, false, cond}
use native.Mathlib.Numerals.{add-one}
use native.Mathlib.Omega.{arith}
use borrow.Author.Tests.{ne_eqb, eqb-true}
use lib.Dec.{eqb}
use lib.ListN.{length, get_or, take, drop, take-append-drop, length-replicate, replicate-append-replicate}
use lib.Seq.{drop-cons, drop_at, length-take-le}
use Rattle.text.specs.Characters.{comma, space}
use Rattle.text.specs.Fields.{spaces}
use Rattle.text.specs.Blocks.{spliced}
use Rattle.text.proofs.SplicedLaws.{length-spliced, take_through, drop-spliced, spliced_none}
use Rattle.text.proofs.BlocksLaws.{kept_further}
use Rattle.text.proofs.EachByteLaws.{every_below, below}
use Rattle.exclusionsets.specs.Exclusions.{exclusion_names}
use Rattle.exclusionsets.specs.ExclusionText.{names_in, commaed, parted, exclusion_text, exclusion_field}
use Rattle.exclusionsets.specs.WordsWritten.{word_at}

-- ---- one name

-- what put_word leaves
abbrev pub IsPut : List ℕ → ℕ → Bool → List ℕ → List ℕ → ℕ → Type 0
IsPut out at on name after r = (after ≡ spliced out at (word_at at on name)) × (r ≡ at + length (word_at at on name))

module _ (out : List ℕ) (at : ℕ) (on : Bool) (name : List ℕ) where
  pub word_off : on ≡ false → IsPut out at on name out at
  word_off e = rw e (spliced_none out at, omega arith)

  pub word_first : (after : List ℕ) → on ≡ true → at ≡ 0 → length name ≡ 3 → after ≡ spliced out 0 name → IsPut out at on name after 3
  word_first after e z l h = rw (e, z) (h, omega arith)

  pub word_next : (after : List ℕ) (word : List ℕ) → on ≡ true → (at ≡ 0 → ⊥) → length name ≡ 3 → word ≡ comma ∷ name → after ≡ spliced out at word
      → IsPut out at on name after (at + 4)
  word_next after word e z l w h =
      let k : length (comma ∷ name) ≡ 4 = ap suc l in
      rw (e, ne_eqb at 0 z) (h ∙ ap (spliced out at) w, omega arith)

-- three bytes, one by one
pub three_bytes : (s : List ℕ) → length s ≡ 3 → get_or s 0 0 ∷ get_or s 1 0 ∷ get_or s 2 0 ∷ [] ≡ s
three_bytes [] e = absurd (omega (arith, e))
three_bytes (a ∷ []) e = absurd (let f : 1 ≡ 3 = e in omega arith)
three_bytes (a ∷ (b ∷ [])) e = absurd (let f : 2 ≡ 3 = e in omega arith)
three_bytes (a ∷ (b ∷ (c ∷ []))) e = refl
three_bytes (a ∷ (b ∷ (c ∷ (d ∷ s)))) e = absurd (let f : suc (suc (suc (suc (length s)))) ≡ 3 = e in omega arith)

-- ---- all names

-- what is left to write behind at bytes
abbrev pub rest_of : ℕ → List (List ℕ) → List ℕ
rest_of at words = cond (eqb at 0) (parted words) (commaed words)

names_length : length exclusion_names ≡ 8
unfolding exclusion_names
names_length = refl

three_all : every_below (λ n. eqb (length (get_or exclusion_names n [])) 3) 8 ≡ true
unfolding exclusion_names
three_all = refl

pub name_three : (n : ℕ) → n < 8 → length (get_or exclusion_names n []) ≡ 3
name_three n h = eqb-true (length (get_or exclusion_names n [])) 3 (below (λ n. eqb (length (get_or exclusion_names n [])) 3) 8 three_all n h)

pub names_step : (set n : ℕ) → n < 8
    → names_in set (drop n exclusion_names)
    ≡ cond (eqb (set % 2) 1) (get_or exclusion_names n [] ∷ names_in (set / 2) (drop (n + 1) exclusion_names)) (names_in (set / 2) (drop (n + 1) exclusion_names))
unfolding names_in
names_step set n h =
    let k : n < length exclusion_names = omega (arith, names_length) in rw (add-one n, drop-cons exclusion_names n [] k)

names_end : (set n : ℕ) → n ≡ 8 → names_in set (drop n exclusion_names) ≡ []
unfolding names_in exclusion_names
names_end set n e = rw e

word_length : (at : ℕ) (on : Bool) (name : List ℕ) → length name ≡ 3 → length (word_at at on name) ≤ 4
word_length at false name l = omega arith
word_length at true name l = go (eqb at 0)
  where
    go : (b : Bool) → length (cond b name (comma ∷ name)) ≤ 4
    go true = omega arith
    go false = let k : length (comma ∷ name) ≡ 4 = ap suc l in omega arith

module _ (out after : List ℕ) (at r : ℕ) (on : Bool) (name : List ℕ) (l : length name ≡ 3) (room : at + 4 ≤ length out)
    (p : IsPut out at on name after r) where
  pub word_end : r ≤ at + 4
  word_end = omega (arith, p.1, word_length at on name l)

  pub word_wide : length after ≡ length out
  word_wide = ap length p.0 ∙ length-spliced out at (word_at at on name) (omega (arith, word_length at on name l))

  pub word_kept : (before : List ℕ) → drop at out ≡ drop at before → drop r after ≡ drop r before
  word_kept before k =
      ap (drop r) p.0
      ∙ drop-spliced out at (word_at at on name) r (omega arith) (omega (arith, p.1))
      ∙ kept_further out before at r (omega (arith, p.1)) k

  pub word_turn : (words : List (List ℕ)) → take r after ++ rest_of r words ≡ take at out ++ rest_of at (cond on (name ∷ words) words)
  unfolding parted commaed
  word_turn words = go on refl p.0 p.1
    where
      first : (b : Bool) → cond b name (comma ∷ name) ++ commaed words ≡ cond b (parted (name ∷ words)) (commaed (name ∷ words))
      first true = refl
      first false = refl

      long : (b : Bool) → 3 ≤ length (cond b name (comma ∷ name))
      long true = omega arith
      long false = let k : length (comma ∷ name) ≡ 4 = ap suc l in omega arith

      go : (b : Bool) → on ≡ b → after ≡ spliced out at (word_at at b name) → r ≡ at + length (word_at at b name)
          → take r after ++ rest_of r words ≡ take at out ++ rest_of at (cond b (name ∷ words) words)
      go false e f g =
          let s : after ≡ out = f ∙ sym (spliced_none out at) in
          let t : r ≡ at = g ∙ omega arith in
          rw (s, t)
      go true e f g =
          let w = cond (eqb at 0) name (comma ∷ name) in
          let z : r ≡ 0 → ⊥ = λ q. omega (arith, long (eqb at 0)) in
          let s : take r after ≡ take at out ++ w = ap (take r) f ∙ take_through out at w r (omega arith) g in
          rw (s, ne_eqb r 0 z) (append_assoc (take at out) w (commaed words) ∙ ap (λ (x : List ℕ). take at out ++ x) (first (eqb at 0)))

-- ---- the whole field

drop-spaces : (k n : ℕ) → k ≤ n → drop k (spaces n) ≡ spaces (n - k)
drop-spaces k n h =
    let e : n ≡ k + (n - k) = omega arith in
    ap (λ (x : ℕ). drop k (spaces x)) e
    ∙ ap (drop k) (sym (replicate-append-replicate k (n - k) space))
    ∙ drop_at (spaces k) (spaces (n - k)) k (length-replicate k space)

rest_none : (at : ℕ) → rest_of at [] ≡ []
unfolding parted commaed
rest_none at = go (eqb at 0)
  where
    go : (b : Bool) → cond b (parted []) (commaed []) ≡ []
    go true = refl
    go false = refl

pub all_words : (set : ℕ) → take 0 (spaces 40) ++ rest_of 0 (names_in set (drop 0 exclusion_names)) ≡ exclusion_text set
unfolding exclusion_text
all_words set = refl

pub field_whole : (set left at n : ℕ) (out : List ℕ) → n ≡ 8 → at ≤ 40 → length out ≡ 40 → drop at out ≡ drop at (spaces 40)
    → take at out ++ rest_of at (names_in left (drop n exclusion_names)) ≡ exclusion_text set → out ≡ exclusion_field set
unfolding exclusion_field
field_whole set left at n out e h w k t =
    let a : rest_of at (names_in left (drop n exclusion_names)) ≡ [] = ap (rest_of at) (names_end left n e) ∙ rest_none at in
    let s : take at out ≡ exclusion_text set = sym (append-nil (take at out)) ∙ ap (λ (x : List ℕ). take at out ++ x) (sym a) ∙ t in
    let l : length (exclusion_text set) ≡ at = ap length (sym s) ∙ length-take-le at out (omega arith) in
    sym (take-append-drop at out) ∙ rw (s, k, drop-spaces at 40 h, l)
