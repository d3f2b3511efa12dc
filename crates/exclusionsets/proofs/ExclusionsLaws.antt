-- Laws of exclusion words, of the set that they name, and of the columns that show a set. Assumes nothing.
use mathlib.Core.Path.{◌≡◌, refl, sym, ap, ◌∙◌}
use mathlib.Core.Bool.{Bool, true, false, cond, ◌&&◌, or-true, false≢true}
use mathlib.Core.List.{List, [], ◌∷◌, ◌++◌, append-nil, append_assoc}
use mathlib.Core.Option.{none}
use Prim.Native.Nat.{ℕ, zero, suc, ◌+◌, ◌*◌, ◌/◌, ◌%◌, ◌≤◌, ◌<◌}
use native.Mathlib.Nat.{not-suc-le-zero, le_of_suc-le-suc}
use native.Mathlib.Numerals.{add-one}
use native.Mathlib.Omega.{arith}
use borrow.Author.Tests.{ltb-true, ltb-false, leb-true, eqb-true, lt-ltb, le-ltb, le-leb, eq-eqb, ne_eqb}
use lib.Bits.{bit_or}
use lib.Dec.{eqb, leb, ltb}
use lib.ListN.{length, get_or, take, drop, length-append, length-take, length-drop, drop_of_length-le, take-append-drop}
use Rattle.std.proofs.lemmas.List.{get_or-take}
use lib.Seq.{drop-cons, drop-drop, get_or-drop}
use Rattle.text.specs.Characters.{A, comma, space, is_byte, within}
use Rattle.text.specs.Fields.{every, is_blank, same_bytes, spaces, unless_empty}
use Rattle.exclusionsets.specs.Words.{can_end, letters_number, word_number}
use Rattle.exclusionsets.specs.Exclusions.{exclusion_names, is_separator, words_from, place_among, bits_named, read_onto, names_shown, exclusion_columns}
use Rattle.text.proofs.FieldsLaws.{and_left, and_right}
use Rattle.text.proofs.SameLaws.{eq_same, same_eq}
use Rattle.exclusionsets.proofs.WordsWrittenLaws.{three_bytes}

-- ---- parts and bytes of a list

-- inside a list the default doesn't matter
pub any_default : (s : List ℕ) (i d e : ℕ) → i < length s → get_or s i d ≡ get_or s i e
any_default [] i d e h = absurd (not-suc-le-zero h)
any_default (b ∷ s) zero d e h = refl
any_default (b ∷ s) (suc i) d e h = any_default s i d e (le_of_suc-le-suc h)

-- ---- words

-- the first word of bytes that start with one; nothing where they start with a separator
abbrev pub first_word : List ℕ → List ℕ
first_word [] = []
first_word (b ∷ s) = cond (is_separator b) [] (b ∷ first_word s)

-- what is read of a word goes on with the first word of the bytes that are left
words_first : (word s : List ℕ) → words_from word s ≡ unless_empty (word ++ first_word s) (words_from [] (drop (length (first_word s)) s))
unfolding words_from
words_first word [] = rw (append-nil word)
words_first word (b ∷ s) = go (is_separator b) refl (words_first (word ++ b ∷ []) s)
  where
    go : (t : Bool) → is_separator b ≡ t
        → words_from (word ++ b ∷ []) s ≡ unless_empty (word ++ b ∷ [] ++ first_word s) (words_from [] (drop (length (first_word s)) s))
        → words_from word (b ∷ s)
        ≡ unless_empty (word ++ first_word (b ∷ s)) (words_from [] (drop (length (first_word (b ∷ s))) (b ∷ s)))
    go true e r = rw (e, append-nil word, e)
    go false e r = rw e (r ∙ rw (append_assoc word (b ∷ []) (first_word s)))

-- at a byte that is no separator a word starts
pub word_here : (s : List ℕ) (i : ℕ) → i < length s → is_separator (get_or s i 0) ≡ false
    → words_from [] (drop i s) ≡ first_word (drop i s) ∷ words_from [] (drop (length (first_word (drop i s))) (drop i s))
word_here s i h t = words_first [] (drop i s) ∙ rw (drop-cons s i 0 h, t)

-- a separator with no word before it is skipped
pub word_skip : (s : List ℕ) (i d : ℕ) → i < length s → is_separator (get_or s i d) ≡ true
    → words_from [] (drop i s) ≡ words_from [] (drop (i + 1) s)
unfolding words_from
word_skip s i d h t = rw (drop-cons s i d h, t, add-one i)

-- no word is left at the end
pub words_none : (s : List ℕ) (i : ℕ) → length s ≤ i → words_from [] (drop i s) ≡ []
unfolding words_from
words_none s i h = rw (drop_of_length-le s h)

-- behind a word its separator is skipped, if there is one
word_behind : (s : List ℕ) (i : ℕ) → is_separator (get_or s i space) ≡ true → words_from [] (drop i s) ≡ words_from [] (drop (i + 1) s)
word_behind s i t = go (ltb i (length s)) refl
  where
    go : (q : Bool) → ltb i (length s) ≡ q → words_from [] (drop i s) ≡ words_from [] (drop (i + 1) s)
    go true e = word_skip s i space (ltb-true i (length s) e) t
    go false e =
        let h = ltb-false i (length s) e in
        words_none s i h ∙ sym (words_none s (i + 1) (omega arith))

-- spaces are no words, and none behind words

blank-behind : (word s : List ℕ) → is_blank s ≡ true → words_from word s ≡ unless_empty word []
unfolding words_from is_blank is_separator
blank-behind word [] t = refl
blank-behind word (b ∷ s) t =
    let h : eqb b space ≡ true = and_left (eqb b space) (every (is_byte space) s) t in
    rw (h, or-true, blank-behind [] s (and_right (eqb b space) (every (is_byte space) s) t))

words_before : (word s t : List ℕ) → is_blank t ≡ true → words_from word (s ++ t) ≡ words_from word s
unfolding words_from
words_before word [] t h = blank-behind word t h
words_before word (b ∷ s) t h = rw (words_before [] s t h, words_before (word ++ b ∷ []) s t h)

pub words_front : (s : List ℕ) (n : ℕ) → is_blank (drop n s) ≡ true → words_from [] (take n s) ≡ words_from [] s
words_front s n t = sym (words_before [] (take n s) (drop n s) t) ∙ ap (words_from []) (take-append-drop n s)

-- ---- the first word and the three bytes that a name has

-- the first word stands at the front, up to a separator or the end

first_taken : (s : List ℕ) → take (length (first_word s)) s ≡ first_word s
first_taken [] = refl
first_taken (b ∷ s) = go (is_separator b) refl (first_taken s)
  where
    go : (t : Bool) → is_separator b ≡ t → take (length (first_word s)) s ≡ first_word s
        → take (length (first_word (b ∷ s))) (b ∷ s) ≡ first_word (b ∷ s)
    go true e r = rw e
    go false e r = rw (e, r)

first_within : (s : List ℕ) → length (first_word s) ≤ length s
first_within s = let e = ap length (first_taken s) in omega (arith, e, length-take (length (first_word s)) s)

first_stop : (s : List ℕ) → is_separator (get_or s (length (first_word s)) space) ≡ true
unfolding is_separator
first_stop [] = refl
first_stop (b ∷ s) = go (is_separator b) refl (first_stop s)
  where
    go : (t : Bool) → is_separator b ≡ t → is_separator (get_or s (length (first_word s)) space) ≡ true
        → is_separator (get_or (b ∷ s) (length (first_word (b ∷ s))) space) ≡ true
    go true e r = rw (e, e)
    go false e r = rw e r

-- none starts before a separator or the end
first_none : (s : List ℕ) (i : ℕ) → is_separator (get_or s i space) ≡ true → first_word (drop i s) ≡ []
first_none s i t = go (ltb i (length s)) refl
  where
    go : (q : Bool) → ltb i (length s) ≡ q → first_word (drop i s) ≡ []
    go true e = rw (drop-cons s i space (ltb-true i (length s) e), t)
    go false e = rw (drop_of_length-le s (ltb-false i (length s) e))

-- ---- the eight names

names_length : length exclusion_names ≡ 8
unfolding exclusion_names
names_length = refl

-- three letters

abbrev are_letters : List ℕ → Bool
are_letters = every (within A 0xE9)

abbrev is_three : List ℕ → Bool
is_three name = eqb (length name) 3 && are_letters name

abbrev Letter : ℕ → Type 0
Letter b = (A ≤ b) × (b ≤ 0xE9)

record Three (name : List ℕ) : Type 0 where
  x : ℕ
  y : ℕ
  z : ℕ
  bytes : name ≡ x ∷ y ∷ z ∷ []
  first : Letter x
  second : Letter y
  third : Letter z

letter : (b : ℕ) (s : List ℕ) → are_letters (b ∷ s) ≡ true → Letter b
letter b s t =
    let h = and_left (within A 0xE9 b) (are_letters s) t in
    (leb-true A b (and_left (leb A b) (leb b 0xE9) h), leb-true b 0xE9 (and_right (leb A b) (leb b 0xE9) h))

three_length : (name : List ℕ) → is_three name ≡ true → length name ≡ 3
three_length name t = eqb-true (length name) 3 (and_left (eqb (length name) 3) (are_letters name) t)

three : (name : List ℕ) → is_three name ≡ true → Three name
three [] t = absurd (false≢true t)
three (x ∷ []) t = absurd (false≢true t)
three (x ∷ y ∷ []) t = absurd (false≢true t)
three (x ∷ y ∷ z ∷ []) t =
    let l = and_right (within A 0xE9 x) (are_letters (y ∷ z ∷ [])) t in
    let m = and_right (within A 0xE9 y) (are_letters (z ∷ [])) l in
    record {
      x = x;
      y = y;
      z = z;
      bytes = refl;
      first = letter x (y ∷ z ∷ []) t;
      second = letter y (z ∷ []) l;
      third = letter z [] m;
    }
three (x ∷ y ∷ z ∷ w ∷ name) t = absurd (omega (arith, three_length (x ∷ y ∷ z ∷ w ∷ name) t))

names_three : every is_three exclusion_names ≡ true
unfolding exclusion_names
names_three = refl

every_at : (f : List ℕ → Bool) (l : List (List ℕ)) (n : ℕ) → n < length l → every f l ≡ true → f (get_or l n []) ≡ true
every_at f [] n h t = absurd (not-suc-le-zero h)
every_at f (x ∷ l) zero h t = and_left (f x) (every f l) t
every_at f (x ∷ l) (suc n) h t = every_at f l n (le_of_suc-le-suc h) (and_right (f x) (every f l) t)

name_is_three : (n : ℕ) → n < 8 → Three (get_or exclusion_names n [])
name_is_three n h = three (get_or exclusion_names n []) (every_at is_three exclusion_names n (omega (arith, names_length)) names_three)

-- ---- the place of a word among the names

same_other : (a b : List ℕ) → (a ≡ b → ⊥) → same_bytes a b ≡ false
same_other a b h = go (same_bytes a b) refl
  where
    go : (t : Bool) → same_bytes a b ≡ t → same_bytes a b ≡ false
    go true e = absurd (h (same_eq a b e))
    go false e = e

-- letters among the names, name by name
module _ (word : List ℕ) (n : ℕ) (h : n < 8) where
  pub place_same : same_bytes word (get_or exclusion_names n []) ≡ true → place_among word (drop n exclusion_names) ≡ 0
  place_same t = let k : n < length exclusion_names = omega (arith, names_length) in rw (drop-cons exclusion_names n [] k, t)

  pub place_other : same_bytes word (get_or exclusion_names n []) ≡ false
      → place_among word (drop n exclusion_names) ≡ suc (place_among word (drop (n + 1) exclusion_names))
  place_other t =
      let k : n < length exclusion_names = omega (arith, names_length) in rw (drop-cons exclusion_names n [] k, t, add-one n)

  pub place_here : word ≡ get_or exclusion_names n [] → place_among word (drop n exclusion_names) ≡ 0
  place_here e = place_same (eq_same word (get_or exclusion_names n []) e)

  pub place_next : (word ≡ get_or exclusion_names n [] → ⊥)
      → place_among word (drop n exclusion_names) ≡ suc (place_among word (drop (n + 1) exclusion_names))
  place_next f = place_other (same_other word (get_or exclusion_names n []) f)

-- behind the eight names there are none
pub place_end : (word : List ℕ) (n : ℕ) → n ≡ 8 → place_among word (drop n exclusion_names) ≡ 0
unfolding exclusion_names
place_end word n e = rw e

-- the word at its place
place_found : (word : List ℕ) (names : List (List ℕ)) → place_among word names < length names → word ≡ get_or names (place_among word names) []
place_found word [] h = absurd (not-suc-le-zero h)
place_found word (name ∷ names) h = go (same_bytes word name) refl h (place_found word names)
  where
    go : (t : Bool) → same_bytes word name ≡ t → cond t 0 (suc (place_among word names)) < suc (length names)
        → (place_among word names < length names → word ≡ get_or names (place_among word names) [])
        → word ≡ get_or (name ∷ names) (cond t 0 (suc (place_among word names))) []
    go true e h r = same_eq word name e
    go false e h r = r (le_of_suc-le-suc h)

-- one of the eight words has three letters
named_three : (word : List ℕ) → place_among word exclusion_names < 8 → Three word
named_three word h =
    let e = place_found word exclusion_names (omega (arith, names_length)) in
    rw e (name_is_three (place_among word exclusion_names) h)

-- ---- the word at a place of a field

no_separator : (b : ℕ) → A ≤ b → is_separator b ≡ false
unfolding is_separator
no_separator b h = rw (ne_eqb b comma (λ e. omega arith), ne_eqb b space (λ e. omega arith))

module _ (s : List ℕ) (i : ℕ) where
  -- three letters behind which a word can end are the word
  three_here : (w : List ℕ) → w ≡ take 3 (drop i s) → Three w → can_end s (i + 3) ≡ true → first_word (drop i s) ≡ w
  three_here w r t e =
      let g = and_right (leb (i + 3) (length s)) (is_separator (get_or s (i + 3) space)) e in
      let d : drop i s ≡ t.x ∷ t.y ∷ t.z ∷ drop (i + 3) s = sym (take-append-drop 3 (drop i s)) ∙ rw (← r, t.bytes, drop-drop 3 i s) in
      rw (d, no_separator t.x t.first.0, no_separator t.y t.second.0, no_separator t.z t.third.0, first_none s (i + 3) g) (sym t.bytes)

  -- a word of three letters ends behind three bytes
  three_ends : Three (first_word (drop i s)) → (can_end s (i + 3) ≡ true) × (take 3 (drop i s) ≡ first_word (drop i s))
  three_ends t =
      let n : length (first_word (drop i s)) ≡ 3 = ap length t.bytes in
      let k : i + 3 ≤ length s = omega (arith, n, first_within (drop i s), length-drop i s) in
      let g : is_separator (get_or s (i + 3) space) ≡ true = rw (n, get_or-drop i s 3 space) at (first_stop (drop i s)) in
      (rw (le-leb (i + 3) (length s) k) g, rw n at (first_taken (drop i s)))

  -- and one of the eight
  named_ends : place_among (first_word (drop i s)) exclusion_names < 8 → (can_end s (i + 3) ≡ true) × (take 3 (drop i s) ≡ first_word (drop i s))
  named_ends h = three_ends (named_three (first_word (drop i s)) h)

  -- so three bytes behind which a word can end are the word where they are one of the eight, and else the word is none of them
  pub named_word : (w : List ℕ) → w ≡ take 3 (drop i s) → can_end s (i + 3) ≡ true → place_among w exclusion_names < 8 → first_word (drop i s) ≡ w
  named_word w r e h = three_here w r (named_three w h) e

  pub other_word : (w : List ℕ) → w ≡ take 3 (drop i s) → (place_among w exclusion_names < 8 → ⊥)
      → place_among (first_word (drop i s)) exclusion_names < 8 → ⊥
  other_word w r f h = f (rw (r ∙ (named_ends h).1) h)

  -- no word of the eight where none can end behind three bytes
  pub none_named : (can_end s (i + 3) ≡ true → ⊥) → place_among (first_word (drop i s)) exclusion_names < 8 → ⊥
  none_named f h = f (named_ends h).0

  -- the words behind one of three letters start behind its separator
  three_behind : Three (first_word (drop i s)) → words_from [] (drop (length (first_word (drop i s))) (drop i s)) ≡ words_from [] (drop (i + 4) s)
  three_behind t =
      let l : length (first_word (drop i s)) ≡ 3 = ap length t.bytes in
      let k : is_separator (get_or s (i + 3) space) ≡ true = rw (l, get_or-drop i s 3 space) at (first_stop (drop i s)) in
      let m : i + 3 + 1 ≡ i + 4 = omega arith in
      rw (l, drop-drop 3 i s) (word_behind s (i + 3) k ∙ rw m)

  -- and behind one of the eight
  named_behind : place_among (first_word (drop i s)) exclusion_names < 8
      → words_from [] (drop (length (first_word (drop i s))) (drop i s)) ≡ words_from [] (drop (i + 4) s)
  named_behind h = three_behind (named_three (first_word (drop i s)) h)

  -- ---- the words read onto a set

  pub read_word_at : (set : ℕ) → i < length s → is_separator (get_or s i 0) ≡ false → place_among (first_word (drop i s)) exclusion_names < 8
      → read_onto set (words_from [] (drop i s))
      ≡ read_onto (bit_or set (bits_named (place_among (first_word (drop i s)) exclusion_names))) (words_from [] (drop (i + 4) s))
  unfolding read_onto
  read_word_at set h e k = rw (word_here s i h e, lt-ltb (place_among (first_word (drop i s)) exclusion_names) 8 k, named_behind k)

  pub read_fails_at : (set : ℕ) → i < length s → is_separator (get_or s i 0) ≡ false → (place_among (first_word (drop i s)) exclusion_names < 8 → ⊥)
      → read_onto set (words_from [] (drop i s)) ≡ none
  unfolding read_onto
  read_fails_at set h e k = rw (word_here s i h e, le-ltb (place_among (first_word (drop i s)) exclusion_names) 8 (omega arith))

-- any word before any others
module _ (set : ℕ) (word : List ℕ) (words : List (List ℕ)) (n : ℕ) (e : place_among word exclusion_names ≡ n) where
  pub read_word : n < 8 → read_onto set (word ∷ words) ≡ read_onto (bit_or set (bits_named n)) words
  unfolding read_onto
  read_word h = rw (e, lt-ltb n 8 h)

  pub read_fails : n ≡ 8 → read_onto set (word ∷ words) ≡ none
  unfolding read_onto
  read_fails h = rw (e, h)

-- ---- a word and a name as numbers

module _ (a b : List ℕ) (p : length a ≡ 3) (q : length b ≡ 3) where
  same_letters : (get_or a 0 0 < 256) × (get_or a 1 0 < 256) × (get_or a 2 0 < 256) → (get_or b 0 0 < 256) × (get_or b 1 0 < 256) × (get_or b 2 0 < 256)
      → letters_number a ≡ letters_number b → a ≡ b
  same_letters h k e =
      let x : get_or a 0 0 ≡ get_or b 0 0 = omega arith in
      let y : get_or a 1 0 ≡ get_or b 1 0 = omega arith in
      let z : get_or a 2 0 ≡ get_or b 2 0 = omega arith in
      sym (three_bytes a p) ∙ rw (x, y, z) (three_bytes b q)

  pub letters_same : (get_or a 0 0 < 256) × (get_or a 1 0 < 256) × (get_or a 2 0 < 256)
      → (get_or b 0 0 < 256) × (get_or b 1 0 < 256) × (get_or b 2 0 < 256)
      → eqb (letters_number a) (letters_number b) ≡ same_bytes a b
  letters_same h k = go (same_bytes a b) refl
    where
      go : (t : Bool) → same_bytes a b ≡ t → eqb (letters_number a) (letters_number b) ≡ t
      go true e = eq-eqb (letters_number a) (letters_number b) (ap letters_number (same_eq a b e))
      go false e = ne_eqb (letters_number a) (letters_number b) (λ n. false≢true (sym e ∙ eq_same a b (same_letters h k n)))

-- a name's bytes, of which the first is not 0
name_bytes : (name : List ℕ) → Three name → (0 < get_or name 0 0) × (get_or name 0 0 < 256) × (get_or name 1 0 < 256) × (get_or name 2 0 < 256)
name_bytes name t =
    rw t.bytes (omega (arith, t.first.0), omega (arith, t.first.1), omega (arith, t.second.1), omega (arith, t.third.1))

-- the word at i is the name at place n where they have one number
module _ (s : List ℕ) (i n : ℕ) (h : n < 8) where
  pub number_here : ((k : ℕ) → get_or s k 0 < 256) → letters_number (get_or exclusion_names n []) ≡ word_number s i
      → same_bytes (first_word (drop i s)) (get_or exclusion_names n []) ≡ true
  number_here bytes e = go (can_end s (i + 3)) refl e
    where
      byte : (k : ℕ) → k < 3 → get_or (take 3 (drop i s)) k 0 < 256
      byte k l = rw (get_or-take 3 (drop i s) k 0 l, get_or-drop i s k 0) (bytes (i + k))

      go : (t : Bool) → can_end s (i + 3) ≡ t → letters_number (get_or exclusion_names n []) ≡ cond t (letters_number (take 3 (drop i s))) 0
          → same_bytes (first_word (drop i s)) (get_or exclusion_names n []) ≡ true
      go false f e = absurd (omega (arith, e, (name_bytes (get_or exclusion_names n []) (name_is_three n h)).0))
      go true f e =
          let t = name_is_three n h in
          let l : length (take 3 (drop i s)) ≡ 3 =
          let g = leb-true (i + 3) (length s) (and_left (leb (i + 3) (length s)) (is_separator (get_or s (i + 3) space)) f) in
          omega (arith, g, length-take 3 (drop i s), length-drop i s) in
          let b = name_bytes (get_or exclusion_names n []) t in
          let w =
          same_eq (get_or exclusion_names n []) (take 3 (drop i s))
          (sym (letters_same (get_or exclusion_names n []) (take 3 (drop i s)) (ap length t.bytes) l (b.1, b.2, b.3) (byte 0 (omega arith), byte 1 (omega arith), byte 2 (omega arith)))
          ∙ eq-eqb (letters_number (get_or exclusion_names n [])) (letters_number (take 3 (drop i s))) e) in
          eq_same (first_word (drop i s)) (get_or exclusion_names n []) (three_here s i (get_or exclusion_names n []) w t f)

  pub number_other : (letters_number (get_or exclusion_names n []) ≡ word_number s i → ⊥)
      → same_bytes (first_word (drop i s)) (get_or exclusion_names n []) ≡ false
  number_other f = same_other (first_word (drop i s)) (get_or exclusion_names n []) (λ e. f (numbers e))
    where
      numbers : first_word (drop i s) ≡ get_or exclusion_names n [] → letters_number (get_or exclusion_names n []) ≡ word_number s i
      numbers e =
          let r = three_ends s i (rw e (name_is_three n h)) in
          rw r.0 (ap letters_number (sym e ∙ sym r.1))

  -- the words behind it start behind its separator
  pub name_behind : same_bytes (first_word (drop i s)) (get_or exclusion_names n []) ≡ true
      → words_from [] (drop (length (first_word (drop i s))) (drop i s)) ≡ words_from [] (drop (i + 4) s)
  name_behind e = three_behind s i (rw (same_eq (first_word (drop i s)) (get_or exclusion_names n []) e) (name_is_three n h))

-- ---- the columns of a set

pub shown_step : (set n : ℕ) → n < 8
    → names_shown set (drop n exclusion_names)
    ≡ cond (eqb (set % 2) 1) (get_or exclusion_names n []) (spaces 3) ++ names_shown (set / 2) (drop (n + 1) exclusion_names)
unfolding names_shown
shown_step set n h =
    let k : n < length exclusion_names = omega (arith, names_length) in rw (add-one n, drop-cons exclusion_names n [] k)

pub shown_end : (set n : ℕ) → n ≡ 8 → names_shown set (drop n exclusion_names) ≡ []
unfolding names_shown exclusion_names
shown_end set n e = rw e

pub columns_none : (set : ℕ) → set ≡ 0 → spaces 24 ≡ exclusion_columns set
unfolding exclusion_columns names_shown exclusion_names
columns_none set e = rw e

-- ---- eight names of three columns each

shown_length : (names : List (List ℕ)) (set : ℕ) → every is_three names ≡ true → length (names_shown set names) ≡ 3 * length names
unfolding names_shown
shown_length [] set t = refl
shown_length (name ∷ names) set t =
    let e : length (cond (eqb (set % 2) 1) name (spaces 3)) ≡ 3 =
    go (eqb (set % 2) 1) (three_length name (and_left (is_three name) (every is_three names) t)) in
    let r = shown_length names (set / 2) (and_right (is_three name) (every is_three names) t) in
    simp length-append (omega arith)
  where
    go : (u : Bool) → length name ≡ 3 → length (cond u name (spaces 3)) ≡ 3
    go true e = e
    go false e = refl

pub columns-length : (set : ℕ) → length (exclusion_columns set) ≡ 24
unfolding exclusion_columns
columns-length set = shown_length exclusion_names set names_three ∙ ap (◌*◌ 3) names_length
