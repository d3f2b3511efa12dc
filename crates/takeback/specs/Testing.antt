-- For the contracts of inner functions; no rule of the papers stands here.
-- Refusal 26 tested place by place: what stands and what is left make the whole. Assumes nothing.
use Rattle.std.specs.Prelude.{ℕ, ◌+◌, ◌≤◌, ◌<◌, ◌≡◌, Bool, true, false, ◌&&◌, List, ◌∷◌, eqb, length, take, drop, Option as CodeOption, None, Some}
use Rattle.std.proofs.Math.Option.{Option, none, some}
use Rattle.text.specs.Fields.{every}
use Rattle.text.specs.ByteOrder.{order_of, is_less, rising}
use Rattle.text.specs.ByteNumbers.{AreBytes, bytes_number}
use Rattle.casemaster.specs.Row.{is_sound_row}
use Rattle.casemaster.specs.Master.{row_in, keys_of}
use Rattle.journal.specs.Journal.{Entry, entries_in, journal_in, with_counts}
use Rattle.takeback.specs.Restored.{places_below, places_rise, new_marks, restored_from, can_take_back}
use Rattle.journal.specs.Reading.{reach}
use Rattle.takeback.specs.declared.testing.Key.{Key}
use Rattle.takeback.specs.declared.testing.Tested.{Tested}
use Rattle.takeback.specs.declared.testing.Counts.{Counts}

-- keys behind the last one left so far, if there is one
abbrev pub with_last : Option (List ℕ) → List (List ℕ) → List (List ℕ)
with_last none keys = keys
with_last (some key) keys = key ∷ keys

-- a key behind it
abbrev pub is_after : Option (List ℕ) → List ℕ → Bool
is_after none key = true
is_after (some last) key = is_less (order_of last key)

-- sound rows in rising order behind it
unfoldable pub sound_behind : Option (List ℕ) → List (List ℕ) → Bool
sound_behind last rows = every is_sound_row rows && rising (with_last last (keys_of rows))

-- the tests that are left from place p of n on, where `marks` marks 00 were met before: over the entries still to come and the rows from p on
unfoldable pub passes_from : ℕ → ℕ → ℕ → ℕ → Option (List ℕ) → Option (List Entry) → List (List ℕ) → Bool
passes_from n before p marks last none rows = false
passes_from n before p marks last (some es) rows =
    (places_below n es && eqb (before + (marks + new_marks es)) n) && (places_rise p es && sound_behind last (restored_from p es rows))

-- twelve bytes, by the numbers of the first eight and of the last four
pub record IsKeyNumbers (key : List ℕ) (front back : ℕ) : Type 0 where
  pub twelve : length key ≡ 12
  pub bytes : AreBytes key
  pub front_is : front ≡ bytes_number (take 8 key)
  pub back_is : back ≡ bytes_number (take 4 (drop 8 key))

-- the last key left so far, if there is one, by its numbers
abbrev pub IsLastIn : CodeOption Key → Option (List ℕ) → Type 0
IsLastIn None last = last ≡ none
IsLastIn (Some k) last = (key : List ℕ) × (last ≡ some key) × IsKeyNumbers key k.front k.back

abbrev pub IsLast : Tested → Option (List ℕ) → Type 0
IsLast s last = IsLastIn s.last last

-- the key at an index stands behind the last one, and is now the last
pub record FollowedTo (bytes : List ℕ) (o at : ℕ) (s r : Tested) : Type 0 where
  pub at_is : r.at ≡ at
  pub marks_is : r.marks ≡ s.marks
  pub behind : (last : Option (List ℕ)) → IsLast s last → is_after last (take 12 (drop o bytes)) ≡ true
  pub last_is : IsLast r (some (take 12 (drop o bytes)))

-- the same, or it stands behind none
abbrev pub Followed : List ℕ → ℕ → ℕ → Tested → CodeOption Tested → Type 0
Followed bytes o at s None = (last : Option (List ℕ)) → IsLast s last → is_after last (take 12 (drop o bytes)) ≡ false
Followed bytes o at s (Some r) = FollowedTo bytes o at s r

-- a row of 200 bytes from an index on, sound or not, in the same way
abbrev pub OldFollowedIf : Bool → List ℕ → ℕ → ℕ → Tested → CodeOption Tested → Type 0
OldFollowedIf true bytes o at s r = Followed bytes o at s r
OldFollowedIf false bytes o at s r = r ≡ None

abbrev pub OldFollowed : List ℕ → ℕ → ℕ → Tested → CodeOption Tested → Type 0
OldFollowed bytes o at s r = OldFollowedIf (is_sound_row (take 200 (drop o bytes))) bytes o at s r

-- one place tested: it goes on with the next, and the tests left there say what they said here
pub record GoesOn (n before : ℕ) (m : List ℕ) (p : ℕ) (journal : List ℕ) (s r : Tested) (last : Option (List ℕ)) (rows : List (List ℕ)) : Type 0 where
  pub now_last : Option (List ℕ)
  pub last_is : IsLast r now_last
  pub same : passes_from n before p s.marks last (entries_in (drop s.at journal)) (row_in m p ∷ rows)
      ≡ passes_from n before (p + 1) r.marks now_last (entries_in (drop r.at journal)) rows

pub record PlacePassed (m : List ℕ) (p : ℕ) (journal : List ℕ) (s r : Tested) : Type 0 where
  pub inside : r.at ≤ length journal
  pub few : r.marks ≤ s.marks + 1
  pub tested : (n before : ℕ) (last : Option (List ℕ)) (rows : List (List ℕ)) → n ≤ reach → p < n → IsLast s last
      → is_sound_row (row_in m p) ≡ true → GoesOn n before m p journal s r last rows

-- or a test failed
abbrev pub PlaceTested : List ℕ → ℕ → List ℕ → Tested → CodeOption Tested → Type 0
PlaceTested m p journal s None = (n before : ℕ) (last : Option (List ℕ)) (rows : List (List ℕ)) → n ≤ reach → p < n → IsLast s last
    → is_sound_row (row_in m p) ≡ true → passes_from n before p s.marks last (entries_in (drop s.at journal)) (row_in m p ∷ rows) ≡ false
PlaceTested m p journal s (Some r) = PlacePassed m p journal s r

-- ---- the counts

pub record CountsRead (journal : List ℕ) (before after at : ℕ) : Type 0 where
  pub is : journal_in journal ≡ with_counts before after (entries_in (drop at journal))
  pub inside : at ≤ length journal

-- or no counts, or one out of reach: no master of fewer rows can be taken back
abbrev pub IsCounts : List ℕ → CodeOption Counts → Type 0
IsCounts journal None = (rows : List (List ℕ)) → length rows < reach → can_take_back (journal_in journal) rows ≡ false
IsCounts journal (Some c) = CountsRead journal c.before c.after c.at
