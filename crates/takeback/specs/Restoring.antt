-- For the contracts of inner functions; no rule of the papers stands here.
-- Rows restored place by place: what stands and what is left make the whole. Assumes nothing.
use Rattle.std.specs.Prelude.{ℕ, ◌+◌, ◌*◌, ◌≤◌, ◌<◌, ◌≡◌, true, List, [], ◌∷◌, ◌++◌, length, drop}
use Rattle.std.proofs.Math.Option.{some}
use Rattle.casemaster.specs.Master.{rows_of, row_in}
use Rattle.journal.specs.Journal.{Entry, entries_in}
use Rattle.takeback.specs.Restored.{places_rise, places_below, restored_from}
use Rattle.journal.specs.Reading.{reach}
use Rattle.takeback.specs.declared.restoring.Position.{Position}

-- the entries from an index on, with places that rise from p on and can be read
pub record CanRestore (journal : List ℕ) (at p : ℕ) : Type 0 where
  pub entries : List Entry
  pub are : entries_in (drop at journal) ≡ some entries
  pub rise : places_rise p entries ≡ true
  pub below : places_below reach entries ≡ true

-- the entries to come are of later places than p
abbrev pub IsLater : ℕ → List Entry → Type 0
IsLater p [] = Unit {0}
IsLater p (e ∷ es) = p < e.place

-- the row at place p, or the old one for it, or none, stands behind those left before; the bytes behind are kept
pub record PlaceRestored (m : List ℕ) (p : ℕ) (journal : List ℕ) (s : Position) (m' : List ℕ) (r : Position) (entries : List Entry) : Type 0 where
  pub left : List (List ℕ)
  pub next : CanRestore journal r.at (p + 1)
  pub taken : (rows : List (List ℕ)) → restored_from p entries (row_in m p ∷ rows) ≡ left ++ restored_from (p + 1) next.entries rows
  pub rows_are : rows_of r.to m' ≡ rows_of s.to m ++ left
  pub rest_kept : drop (r.to * 200) m' ≡ drop (r.to * 200) m
  pub same_length : length m' ≡ length m
  pub inside : r.at ≤ length journal
  pub to_low : r.to ≤ p + 1
  pub to_high : s.to ≤ r.to

-- all rows restored: `count` rows at the front, and the bytes behind them kept
pub record AllRestored (m : List ℕ) (n : ℕ) (m' : List ℕ) (count : ℕ) (entries : List Entry) : Type 0 where
  pub rows_are : rows_of count m' ≡ restored_from 0 entries (rows_of n m)
  pub rest_kept : drop (count * 200) m' ≡ drop (count * 200) m
  pub same_length : length m' ≡ length m
  pub few : count ≤ n
