-- For the contracts of inner functions; no rule of the papers stands here.
-- The details of a run worked through the machine, each verdict at its detail's own position. Assumes nothing.
use Rattle.std.specs.Prelude.{ℕ, zero, suc, ◌+◌, ◌-◌, ◌≤◌, ◌<◌, ◌≡◌, List, ◌⊎◌, length, drop, get_or}
use Rattle.std.proofs.Math.Option.{Option, none}
use Rattle.judging.specs.Errors.{is_given}
use Rattle.judging.specs.Setting.{Setting, setting_of}
use Rattle.onecase.specs.Verdict.{judgement}
use Rattle.onecase.specs.Machine.{next}
use Rattle.keywork.specs.Packed.{place_in, Packed}
use Rattle.keyorder.specs.Tagged.{index_part, flag_given, Known, record_in}

-- it holds in the settings of which a number says so
abbrev pub UnderTag : List ℕ → ℕ → List ℕ → List ℕ → ℕ → (Setting → Type 0) → Type 0
UnderTag state year list rec n holds =
    (names : List (List ℕ)) → Known state year list rec n → flag_given n ≡ is_given names rec → holds (setting_of state year list names)

-- one detail worked: what it leaves of the row, and its number
pub record OneWorked (setting : Setting) (row : Option (List ℕ)) (rec : List ℕ) (i : ℕ) (left : Option (List ℕ)) (n : ℕ) : Type 0 where
  pub row_is : left ≡ next setting row rec
  pub packed : Packed n i (judgement setting row rec)

-- it holds in the settings of which the numbers from p up to e say so
abbrev pub UnderTags : List ℕ → ℕ → List ℕ → List ℕ → List ℕ → ℕ → ℕ → (Setting → Type 0) → Type 0
UnderTags state year list batch numbers p e holds =
    (names : List (List ℕ))
    → ((q : ℕ) → p ≤ q → q < e → Known state year list (record_in batch numbers q) (get_or numbers q 0))
    → ((q : ℕ) → p ≤ q → q < e → flag_given (get_or numbers q 0) ≡ is_given names (record_in batch numbers q))
    → holds (setting_of state year list names)

-- the row after n details from position p on
unfoldable pub row_after : Setting → List ℕ → List ℕ → ℕ → ℕ → Option (List ℕ) → Option (List ℕ)
row_after setting batch numbers p zero row = row
row_after setting batch numbers p (suc n) row = next setting (row_after setting batch numbers p n row) (record_in batch numbers (p + n))

-- the details from p up to e worked one behind the other, each verdict at its position; the numbers elsewhere are kept
pub record RunWorked (setting : Setting) (batch : List ℕ) (p e : ℕ) (row row' : Option (List ℕ)) (numbers numbers' : List ℕ) : Type 0 where
  pub row_is : row' ≡ row_after setting batch numbers p (e - p) row
  pub packed : (q : ℕ) → p ≤ q → q < e
      → Packed (get_or numbers' q 0) (index_part (get_or numbers q 0)) (judgement setting (row_after setting batch numbers p (q - p) row) (record_in batch numbers q))
  pub kept : (q : ℕ) → (q < p) ⊎ (e ≤ q) → get_or numbers' q 0 ≡ get_or numbers q 0
  pub width : length numbers' ≡ length numbers

-- the first d numbers hold the indexes from 0 up to d, each once
pub record AllPlaces (d : ℕ) (numbers : List ℕ) : Type 0 where
  pub inside : (q : ℕ) → q < d → place_in (get_or numbers q 0) < d
  pub apart : (q p : ℕ) → q < p → p < d → place_in (get_or numbers q 0) ≡ place_in (get_or numbers p 0) → ⊥

-- each of the first d numbers stands at the place of its index, where they hold the indexes from 0 up to d; those behind are kept
pub record PutBack (d : ℕ) (before after : List ℕ) : Type 0 where
  pub place : AllPlaces d before → (i : ℕ) → i < d → place_in (get_or after i 0) ≡ i
  pub number : AllPlaces d before → (q : ℕ) → q < d → get_or after (place_in (get_or before q 0)) 0 ≡ get_or before q 0
  pub kept : drop d after ≡ drop d before
  pub width : length after ≡ length before

-- it holds in the settings of which the numbers from p up to e say so, whatever names are given
abbrev pub UnderAlone : List ℕ → ℕ → List ℕ → List ℕ → List ℕ → ℕ → ℕ → (Setting → Type 0) → Type 0
UnderAlone state year list batch numbers p e holds =
    (names : List (List ℕ))
    → ((q : ℕ) → p ≤ q → q < e → Known state year list (record_in batch numbers q) (get_or numbers q 0))
    → holds (setting_of state year list names)

-- the details from p up to e judged on no row, each verdict at its position; the numbers elsewhere are kept
pub record AloneWorked (setting : Setting) (batch : List ℕ) (p e : ℕ) (numbers numbers' : List ℕ) : Type 0 where
  pub packed : (q : ℕ) → p ≤ q → q < e → Packed (get_or numbers' q 0) (index_part (get_or numbers q 0)) (judgement setting none (record_in batch numbers q))
  pub kept : (q : ℕ) → (q < p) ⊎ (e ≤ q) → get_or numbers' q 0 ≡ get_or numbers q 0
  pub width : length numbers' ≡ length numbers
