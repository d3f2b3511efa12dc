-- Laws of an exclusion field that is written: it is forty bytes, and reading it gives the set again, each by one test of all sets, which is
-- computed; and the set of an exclusion field that is read is a widened one. Assumes nothing.
use Prim.Native.Nat.{ℕ, ◌<◌}
use mathlib.Core.Path.{◌≡◌, refl, ap}
use mathlib.Core.List.{List, [], ◌∷◌}
use mathlib.Core.Bool.{Bool, true, false, not, cond, ◌&&◌, ◌||◌}
use mathlib.Core.Option.{Option, none, some}
use native.Mathlib.Omega.{arith}
use borrow.Author.Tests.{eqb-true, ltb-true}
use lib.Dec.{eqb, ltb}
use lib.Bits.{bit_or}
use lib.ListN.{length}
use Rattle.text.specs.Fields.{same_bytes}
use Rattle.text.proofs.FieldsLaws.{and_left, and_right}
use Rattle.text.proofs.EachByteLaws.{agree, every_below, below, bytes_agree}
use Rattle.exclusionsets.specs.Exclusions.{exclusion_names, is_separator, words_from, place_among, bits_named, read_onto, exclusions_of}
use Rattle.exclusionsets.specs.ExclusionText.{is_widened, names_in, commaed, parted, exclusion_text, exclusion_field}

-- ---- written and read

-- the set that was read
abbrev is_set : ℕ → Option ℕ → Bool
is_set set none = false
is_set set (some read) = eqb read set

is_set_lem : (set : ℕ) (read : Option ℕ) → is_set set read ≡ true → read ≡ some set
is_set_lem set none t = cc
is_set_lem set (some read) t = ap some (eqb-true read set t)

-- what is asked of the field of each set
abbrev is_field_right : ℕ → Bool
is_field_right set = eqb (length (exclusion_field set)) 40 && (not (is_widened set) || is_set set (exclusions_of (exclusion_field set)))

all_right : every_below (λ s. agree (is_field_right s) true) 256 ≡ true
unfolding is_widened names_in commaed parted exclusion_text exclusion_field exclusion_names is_separator words_from read_onto exclusions_of same_bytes
all_right = refl

right : (set : ℕ) → set < 256 → is_field_right set ≡ true
right set h = bytes_agree is_field_right (λ s. true) all_right set h

pub field-length : (set : ℕ) → set < 256 → length (exclusion_field set) ≡ 40
field-length set h = eqb-true (length (exclusion_field set)) 40 (and_left (eqb (length (exclusion_field set)) 40) _ (right set h))

pub field-read : (set : ℕ) → set < 256 → is_widened set ≡ true → exclusions_of (exclusion_field set) ≡ some set
field-read set h t =
    let r = and_right (eqb (length (exclusion_field set)) 40) _ (right set h) in
    is_set_lem set (exclusions_of (exclusion_field set)) (rw t at r)

-- ---- what is read is widened

-- a widened set with one name more
abbrev stays_widened : ℕ → ℕ → Bool
stays_widened set n = not (is_widened set) || is_widened (bit_or set (bits_named n)) && ltb (bit_or set (bits_named n)) 256

all_stay : every_below (λ s. every_below (λ n. stays_widened s n) 8) 256 ≡ true
unfolding is_widened
all_stay = refl

stays : (set n : ℕ) → set < 256 → n < 8 → is_widened set ≡ true
    → (is_widened (bit_or set (bits_named n)) && ltb (bit_or set (bits_named n)) 256) ≡ true
stays set n h l t =
    let s = below (λ s. every_below (λ n. stays_widened s n) 8) 256 all_stay set h in
    let u = below (λ n. stays_widened set n) 8 s n l in
    rw t at u

onto_widened : (set : ℕ) (words : List (List ℕ)) (read : ℕ) → set < 256 → is_widened set ≡ true → read_onto set words ≡ some read
    → is_widened read ≡ true
unfolding read_onto
onto_widened set [] read h t e = let d : set ≡ read = cc in rw (← d) t
onto_widened set (word ∷ words) read h t e =
    go (ltb (place_among word exclusion_names) 8) refl e
    (λ a b f. onto_widened (bit_or set (bits_named (place_among word exclusion_names))) words read a b f)
  where
    go : (b : Bool) → ltb (place_among word exclusion_names) 8 ≡ b
        → cond b (read_onto (bit_or set (bits_named (place_among word exclusion_names))) words) none ≡ some read
        → (bit_or set (bits_named (place_among word exclusion_names)) < 256
        → is_widened (bit_or set (bits_named (place_among word exclusion_names))) ≡ true
        → read_onto (bit_or set (bits_named (place_among word exclusion_names))) words ≡ some read
        → is_widened read ≡ true)
        → is_widened read ≡ true
    go true l e r =
        let k = ltb-true (place_among word exclusion_names) 8 l in
        let s = stays set (place_among word exclusion_names) h k t in
        let w = bit_or set (bits_named (place_among word exclusion_names)) in
        r (ltb-true w 256 (and_right (is_widened w) (ltb w 256) s)) (and_left (is_widened w) (ltb w 256) s) e
    go false l e r = cc

none_widened : is_widened 0 ≡ true
unfolding is_widened
none_widened = refl

pub read_widened : (s : List ℕ) (read : ℕ) → exclusions_of s ≡ some read → is_widened read ≡ true
unfolding exclusions_of
read_widened s read e = onto_widened 0 (words_from [] s) read (omega arith) none_widened e
