-- Document 02, item 11: the exclusions in bit order, parted by commas; item 7: which sets an exclusion field can name. Assumes nothing.
use Rattle.std.specs.Prelude.{ℕ, ◌-◌, ◌/◌, ◌%◌, List, [], ◌∷◌, ◌++◌, Bool, not, cond, ◌||◌, eqb, length}
use Rattle.text.specs.Characters.{comma}
use Rattle.text.specs.Fields.{spaces}
use Rattle.exclusionsets.specs.Exclusions.{exclusion_names}

-- a set without ADM (bit 0), or with all of RET, VEN and SAL (bits 1 to 3)
unfoldable pub is_widened : ℕ → Bool
is_widened set = not (eqb (set % 2) 1) || eqb (set / 2 % 8) 7

-- the names in a set, in bit order
unfoldable pub names_in : ℕ → List (List ℕ) → List (List ℕ)
names_in set [] = []
names_in set (name ∷ names) = cond (eqb (set % 2) 1) (name ∷ names_in (set / 2) names) (names_in (set / 2) names)

-- words behind another, each with a comma before it
unfoldable pub commaed : List (List ℕ) → List ℕ
commaed [] = []
commaed (word ∷ words) = comma ∷ (word ++ commaed words)

-- words parted by commas
unfoldable pub parted : List (List ℕ) → List ℕ
parted [] = []
parted (word ∷ words) = word ++ commaed words

unfoldable pub exclusion_text : ℕ → List ℕ
exclusion_text set = parted (names_in set exclusion_names)

-- the forty columns 188–227 of Chart A-1
unfoldable pub exclusion_field : ℕ → List ℕ
exclusion_field set = exclusion_text set ++ spaces (40 - length (exclusion_text set))
