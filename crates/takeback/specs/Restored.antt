-- Document 02, item 8: whether a journal fits a master, and the rows that taking back leaves. Assumes nothing.
use Rattle.std.specs.Prelude.{ℕ, zero, suc, ◌+◌, List, [], ◌∷◌, ◌++◌, Bool, true, false, cond, ◌&&◌, ltb, leb, eqb, length}
use Rattle.std.proofs.Math.Option.{Option, none, some}
use Rattle.text.specs.Options.{one_or_none}
use Rattle.casemaster.specs.Master.{are_sound_rows}
use Rattle.journal.specs.Journal.{Entry, Journal}

-- the rows left of those from a place on: without those marked 00, and with the old row for those marked 01
unfoldable pub restored_from : ℕ → List Entry → List (List ℕ) → List (List ℕ)
restored_from place [] rows = rows
restored_from place (e ∷ es) [] = []
restored_from place (e ∷ es) (row ∷ rows) =
    cond (eqb e.place place) (one_or_none e.old ++ restored_from (suc place) es rows) (row ∷ restored_from (suc place) (e ∷ es) rows)

-- places in strictly rising order, from one on
unfoldable pub places_rise : ℕ → List Entry → Bool
places_rise place [] = true
places_rise place (e ∷ es) = leb place e.place && places_rise (suc e.place) es

-- places below a count
unfoldable pub places_below : ℕ → List Entry → Bool
places_below count [] = true
places_below count (e ∷ es) = ltb e.place count && places_below count es

-- how many marks are 00
abbrev pub one_if_new : Option (List ℕ) → ℕ
one_if_new none = 1
one_if_new (some row) = 0

unfoldable pub new_marks : List Entry → ℕ
new_marks [] = 0
new_marks (e ∷ es) = one_if_new e.old + new_marks es

-- it fits only a master of its count after, with places below that and as many marks 00 as the count grew
unfoldable pub fits : Journal → ℕ → Bool
fits j rows = eqb j.after rows && (places_below j.after j.entries && eqb (j.before + new_marks j.entries) j.after)

-- what is left of a master's rows
abbrev pub restored : Journal → List (List ℕ) → List (List ℕ)
restored j rows = restored_from zero j.entries rows

-- fits the master, has places in strictly rising order and leaves a sound master
unfoldable pub can_take_back : Option Journal → List (List ℕ) → Bool
can_take_back none rows = false
can_take_back (some j) rows = fits j (length rows) && (places_rise zero j.entries && are_sound_rows (restored j rows))
