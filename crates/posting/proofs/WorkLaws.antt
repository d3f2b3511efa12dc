-- Laws of the loop over the lines: what is done and what is left make the whole. Assumes nothing.
use Prim.Native.Nat.{ℕ, suc, ◌+◌, ◌*◌, ◌≤◌, ◌<◌}
use mathlib.Core.Path.{◌≡◌, refl, sym, ◌∙◌}
use mathlib.Core.List.{List, [], ◌∷◌, ◌++◌, append_assoc, append-nil}
use mathlib.Core.Bool.{Bool, true, false, cond}
use native.Mathlib.Numerals.{add-one}
use native.Mathlib.Omega.{arith}
use lib.ListN.{length, take, drop, set, length-set, drop_of_length-le}
use lib.Seq.{take-suc-set, drop-set-lt}
use Rattle.text.specs.Blocks.{blocks}
use Rattle.casemaster.specs.Master.{rows_of}
use Rattle.text.proofs.BlocksLaws.{length-blocks, blocks-next}
use Rattle.text.proofs.BlocksLaws.{kept_further}
use Rattle.casemaster.proofs.RowsLaws.{Fit}
use Rattle.posting.specs.Posting.{is_posted_in, after_line, after_lines, listed_from, listed}
use Rattle.posting.specs.Parts.{LineDone, LinesDone}
use Rattle.posting.proofs.TurnLaws.{after_fit}

-- i lines done, k of them listed
pub record Going (m₀ : List ℕ) (n : ℕ) (file : List ℕ) (count : ℕ) (lines₀ m lines : List ℕ) (k i : ℕ) : Type 0 where
  pub within : i ≤ count
  pub few : k ≤ i
  pub wide : length m ≡ length m₀
  pub room : length lines ≡ length lines₀
  pub fit : Fit (rows_of n m)
  pub rows_left : after_lines (rows_of n m) (drop i (blocks 240 count file)) ≡ after_lines (rows_of n m₀) (blocks 240 count file)
  pub rest_kept : drop (n * 200) m ≡ drop (n * 200) m₀
  pub list_left : take k lines ++ listed_from (suc i) (rows_of n m) (drop i (blocks 240 count file)) ≡ listed (rows_of n m₀) (blocks 240 count file)
  pub list_kept : drop k lines ≡ drop k lines₀

module _ (m₀ : List ℕ) (n : ℕ) (file : List ℕ) (count : ℕ) (lines₀ : List ℕ) where
  pub going_none : Fit (rows_of n m₀) → Going m₀ n file count lines₀ m₀ lines₀ 0 0
  going_none s =
      record {
        within = omega arith;
        few = omega arith;
        wide = refl;
        room = refl;
        fit = s;
        rows_left = refl;
        rest_kept = refl;
        list_left = refl;
        list_kept = refl;
      }

  module _ (m lines : List ℕ) (k i : ℕ) (g : Going m₀ n file count lines₀ m lines k i) (l : i < count) (h : k < length lines) where
    abbrev ls : List (List ℕ)
    ls = blocks 240 count file

    abbrev line : List ℕ
    line = take 240 (drop (i * 240) file)

    step_rows : after_lines (after_line (rows_of n m) line) (drop (i + 1) ls) ≡ after_lines (rows_of n m₀) ls
    unfolding after_lines
    step_rows = rw (blocks-next 240 count file i l) at g.rows_left

    step_list : take k lines ++ (cond (is_posted_in (rows_of n m) line) [] (suc i ∷ []) ++ listed_from (suc (suc i)) (after_line (rows_of n m) line) (drop (i + 1) ls))
        ≡ listed (rows_of n m₀) ls
    unfolding listed_from
    step_list = rw (blocks-next 240 count file i l) at g.list_left

    pub going_next : (after after-lines : List ℕ) (k' : ℕ) (r : Bool) → LineDone m n line after r → k' ≡ cond r k (k + 1)
        → after-lines ≡ cond r lines (set lines k (i + 1)) → Going m₀ n file count lines₀ after after-lines k' (i + 1)
    going_next after after-lines k' r d ek el =
        record {
          within = omega arith;
          few = few_go r ek;
          wide = d.same_length ∙ g.wide;
          room = room_go r el;
          fit = rw d.rows_are (after_fit (rows_of n m) line g.fit);
          rows_left = rw d.rows_are step_rows;
          rest_kept = d.rest_kept ∙ g.rest_kept;
          list_left = rw (add-one i, d.rows_are) (list_go r ek el (rw (← d.posted_is, add-one i) at step_list));
          list_kept = kept_go r ek el;
        }
      where
        few_go : (b : Bool) → k' ≡ cond b k (k + 1) → k' ≤ i + 1
        few_go true e = omega (arith, g.few)
        few_go false e = omega (arith, g.few)

        room_go : (b : Bool) → after-lines ≡ cond b lines (set lines k (i + 1)) → length after-lines ≡ length lines₀
        room_go true e = rw e g.room
        room_go false e = rw e (length-set lines k (i + 1) ∙ g.room)

        list_go : (b : Bool) → k' ≡ cond b k (k + 1) → after-lines ≡ cond b lines (set lines k (i + 1))
            → take k lines ++ (cond b [] (suc i ∷ []) ++ listed_from (suc (suc i)) (after_line (rows_of n m) line) (drop (suc i) ls)) ≡ listed (rows_of n m₀) ls
            → take k' after-lines ++ listed_from (suc (suc i)) (after_line (rows_of n m) line) (drop (suc i) ls) ≡ listed (rows_of n m₀) ls
        list_go true e f q = rw (e, f) q
        list_go false e f q =
            rw (e, f, add-one k, add-one i, take-suc-set lines k (suc i) h)
            (append_assoc (take k lines) (suc i ∷ []) (listed_from (suc (suc i)) (after_line (rows_of n m) line) (drop (suc i) ls)) ∙ q)

        kept_go : (b : Bool) → k' ≡ cond b k (k + 1) → after-lines ≡ cond b lines (set lines k (i + 1)) → drop k' after-lines ≡ drop k' lines₀
        kept_go true e f = rw (e, f) g.list_kept
        kept_go false e f =
            rw (e, f) (drop-set-lt (k + 1) lines k (i + 1) (omega arith) ∙ kept_further lines lines₀ k (k + 1) (omega arith) g.list_kept)

  pub going_end : (m lines : List ℕ) (k i : ℕ) → Going m₀ n file count lines₀ m lines k i → count ≤ i → LinesDone m₀ n file count lines₀ m lines k
  unfolding after_lines listed_from
  going_end m lines k i g h =
      let z : drop i (blocks 240 count file) ≡ [] = drop_of_length-le (blocks 240 count file) {i = i} (rw (length-blocks 240 count file) h) in
      let a = rw z at g.rows_left in
      let b = rw z at g.list_left in
      record {
        rows_are = a;
        rest_kept = g.rest_kept;
        list_is = sym (append-nil (take k lines)) ∙ b;
        list_kept = g.list_kept;
        few = omega (arith, g.few, g.within);
        master_length = g.wide;
        list_length = g.room;
      }
