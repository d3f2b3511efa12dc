-- Laws of places among n rows: written one by one they stay within, and a place where the key is found is the row's. Assumes nothing.
use Prim.Native.Nat.{ℕ, zero, suc, ◌+◌, ◌-◌, ◌*◌, ◌/◌, ◌≤◌, ◌<◌}
use mathlib.Core.Path.{◌≡◌, sym, ◌∙◌}
use mathlib.Core.List.{List, [], ◌∷◌}
use mathlib.Core.Bool.{true}
use mathlib.Core.Option.{some}
use native.Mathlib.Omega.{arith}
use lib.ListN.{length, take, drop, get_or, set, replicate}
use lib.Seq.{take-take, get_or-set_other}
use Rattle.text.specs.Fields.{same_bytes}
use Rattle.text.proofs.SameLaws.{same_eq}
use Rattle.text.proofs.BlocksLaws.{blocks_get, length-blocks, part_width}
use Rattle.casemaster.specs.Master.{rows_of, are_sound_rows}
use Rattle.casemaster.specs.Row.{row_key}
use Rattle.text.proofs.ZerosLaws.{zeros_get}
use Rattle.casemaster.specs.Rows.{place_with}
use Rattle.casemaster.proofs.SearchLaws.{place_found_lem}
use Rattle.casemaster.proofs.RowsLaws.{rows_rise}
use Rattle.posting.specs.Hints.{HintsWithin}

-- ---- sixteen places

-- at the start all rows are left
pub within-zeros : (w n : ℕ) → HintsWithin n n (replicate w 0)
within-zeros w n k = omega (arith, zeros_get w k)

within-set : (n left : ℕ) (places : List ℕ) (i p : ℕ) → HintsWithin n left places → p + left ≤ n → HintsWithin n left (set places i p)
within-set n left [] i p w h k = w k
within-set n left (q ∷ places) zero p w h zero = h
within-set n left (q ∷ places) zero p w h (suc k) = w (suc k)
within-set n left (q ∷ places) (suc i) p w h zero = w zero
within-set n left (q ∷ places) (suc i) p w h (suc k) = within-set n left places i p (λ j. w (suc j)) h k

-- the places before k have half of the rows left, those from k on all
pub record Halved (n left k : ℕ) (places : List ℕ) : Type 0 where
  pub all : HintsWithin n (left - left / 2) places
  pub behind : (j : ℕ) → k ≤ j → get_or places j 0 + left ≤ n

module _ (n left : ℕ) (places : List ℕ) where
  pub halved_none : HintsWithin n left places → Halved n left 0 places
  halved_none w = record { all = λ k. omega (arith, w k); behind = λ j h. w j }

  module _ (k : ℕ) (g : Halved n left k places) (p : ℕ) (h : p ≤ get_or places k 0 + left / 2) where
    pub halved_next : Halved n left (k + 1) (set places k p)
    halved_next =
        record {
          all = within-set n (left - left / 2) places k p g.all (omega (arith, h, g.behind k (omega arith)));
          behind = λ j l. rw (get_or-set_other places k j p 0 (λ e. omega arith)) (g.behind j (omega arith));
        }

-- ---- a hint that is right

pub place_near : (n : ℕ) (m key : List ℕ) (p : ℕ) → are_sound_rows (rows_of n m) ≡ true → p < n
    → same_bytes (take (p * 200 + 12 - p * 200) (drop (p * 200) m)) key ≡ true → place_with key (rows_of n m) ≡ some p
place_near n m key p s l t = place_found_lem key (rows_of n m) p (rows_rise (rows_of n m) s) inside here
  where
    inside : p < length (rows_of n m)
    inside = rw (length-blocks 200 n m) l

    same : take 12 (drop (p * 200) m) ≡ key
    same = sym (part_width 12 m (p * 200)) ∙ same_eq (take (p * 200 + 12 - p * 200) (drop (p * 200) m)) key t

    here : row_key (get_or (rows_of n m) p []) ≡ key
    here = rw (blocks_get 200 n m p l) (rw (take-take 12 200 (drop (p * 200) m) (omega arith)) same)
