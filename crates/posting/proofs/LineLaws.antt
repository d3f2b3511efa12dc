-- Laws of a line's turn in a buffer: a row put back is the row under the line's key replaced, and the bytes behind the rows are kept.
-- Assumes nothing.
use Prim.Native.Nat.{ℕ, suc, ◌+◌, ◌-◌, ◌*◌, ◌≤◌, ◌<◌}
use mathlib.Core.Path.{◌≡◌, refl, sym, ap, ◌∙◌}
use mathlib.Core.List.{List, [], ◌∷◌, ◌++◌, append_assoc}
use mathlib.Core.Bool.{Bool, true, false, cond}
use mathlib.Core.Option.{none, some}
use native.Mathlib.Numerals.{add-one}
use native.Mathlib.Omega.{arith}
use lib.ListN.{length, take, drop, set}
use lib.Seq.{set_split}
use Rattle.text.specs.Blocks.{blocks}
use Rattle.casemaster.specs.Master.{rows_of, are_sound_rows}
use Rattle.text.proofs.WidthLaws.{blocks_wide}
use Rattle.casemaster.specs.Rows.{row_with, place_with}
use Rattle.casemaster.specs.Search.{RowPut}
use Rattle.text.proofs.BlocksLaws.{length-blocks, blocks_get, take-blocks, drop-blocks}
use Rattle.text.proofs.BlocksLaws.{blocks_split, kept_further}
use Rattle.casemaster.proofs.SearchLaws.{place_row, no_place-row, place_inside, place_set}
use Rattle.casemaster.specs.Row.{is_sound_row}
use Rattle.collectionfile.specs.Line.{line_key}
use Rattle.posting.specs.Posting.{is_posted_on, posted_row, is_posted_in, after_line}
use Rattle.posting.specs.Parts.{turn_of, IsPut, LineDone}
use Rattle.std.specs.Prelude.{Some, None}
use Rattle.posting.proofs.TurnLaws.{found_sound, posted_key}
use Rattle.casemaster.proofs.RowsLaws.{Fit, rows_rise}

-- the rows of a buffer that holds them, where they are sound
pub fit_of : (n : ℕ) (m : List ℕ) → n * 200 ≤ length m → are_sound_rows (rows_of n m) ≡ true → Fit (rows_of n m)
fit_of n m h s = record { wide = blocks_wide 200 n m h; sound = s }

-- ---- the row at a place

module _ (m : List ℕ) (p : ℕ) (line row after : List ℕ) (e : row ≡ take 200 (drop (p * 200) m)) where
  -- a line that is not posted, and one that is
  not_posted : (b : Bool) (row' : List ℕ) → None ≡ cond b (Some row') None → b ≡ false
  not_posted true row' h = cc
  not_posted false row' h = refl

  is_posted : (b : Bool) (row' new : List ℕ) → Some new ≡ cond b (Some row') None → (b ≡ true) × (new ≡ row')
  is_posted true row' new h = (refl, cc)
  is_posted false row' new h = cc

  pub put_left : None ≡ turn_of line row → IsPut m p line m false
  put_left t =
      record {
        posted_is = rw (← e) (sym (not_posted (is_posted_on line row) (posted_row line row) t));
        put = λ z. let x : ◌≡◌ {A = ℕ} 0 1 = cc in absurd (omega arith);
        left = λ z. refl;
      }

  pub put_done : (new : List ℕ) → Some new ≡ turn_of line row → RowPut m p new after → IsPut m p line after true
  put_done new t r =
      let h = is_posted (is_posted_on line row) (posted_row line row) new t in
      record {
        posted_is = rw (← e) (sym h.0);
        put = λ z. rw (← e) (rw h.1 at r);
        left = λ z. let x : ◌≡◌ {A = ℕ} 0 1 = cc in absurd (omega arith);
      }

-- ---- a row put among n

module _ (m after : List ℕ) (p : ℕ) (row : List ℕ) (h : RowPut m p row after) where
  put_among : (q : ℕ) → rows_of (p + 1 + q) after ≡ set (rows_of (p + 1 + q) m) p row
  put_among q =
      let l : p < length (rows_of (p + 1 + q) m) = rw (length-blocks 200 (p + 1 + q) m) (omega arith) in
      let a : rows_of (p + 1 + q) after ≡ rows_of p m ++ row ∷ blocks 200 q (drop ((p + 1) * 200) m) =
      blocks_split 200 (p + 1) q after
      ∙ rw (h.rows_are, h.rest_kept) (append_assoc (rows_of p m) (row ∷ []) (blocks 200 q (drop ((p + 1) * 200) m))) in
      let b : drop (suc p) (rows_of (p + 1 + q) m) ≡ blocks 200 q (drop ((p + 1) * 200) m) =
      rw (← add-one p) (drop-blocks 200 (p + 1) q m) in
      a ∙ sym (set_split (rows_of (p + 1 + q) m) p row l ∙ rw (take-blocks 200 p (p + 1 + q) m (omega arith), b))

  pub put_rows : (n : ℕ) → p < n → rows_of n after ≡ set (rows_of n m) p row
  put_rows n l =
      let e : p + 1 + (n - (p + 1)) ≡ n = omega arith in
      rw e at (put_among (n - (p + 1)))

  pub put_rest : (n : ℕ) → p < n → drop (n * 200) after ≡ drop (n * 200) m
  put_rest n l = kept_further after m ((p + 1) * 200) (n * 200) (omega arith) h.rest_kept

-- ---- the line's turn

module _ (m : List ℕ) (n : ℕ) (line : List ℕ) where
  pub line_missing : place_with (line_key line) (rows_of n m) ≡ none → LineDone m n line m false
  unfolding is_posted_in after_line
  line_missing e =
      let w : row_with (line_key line) (rows_of n m) ≡ none = no_place-row (line_key line) (rows_of n m) e in
      record { posted_is = rw w; rows_are = rw w; rest_kept = refl; same_length = refl }

  module _ (p : ℕ) (e : place_with (line_key line) (rows_of n m) ≡ some p) where
    pub place_within : p < n
    place_within = rw (length-blocks 200 n m) at (place_inside (line_key line) (rows_of n m) p e).0

    found : row_with (line_key line) (rows_of n m) ≡ some (take 200 (drop (p * 200) m))
    found = place_row (line_key line) (rows_of n m) p e ∙ rw (blocks_get 200 n m p place_within)

    module _ (s : Fit (rows_of n m)) where
      pub place_sound : is_sound_row (take 200 (drop (p * 200) m)) ≡ true
      place_sound = found_sound (rows_of n m) s line (take 200 (drop (p * 200) m)) found

      posted_then : is_posted_in (rows_of n m) line ≡ is_posted_on line (take 200 (drop (p * 200) m))
      unfolding is_posted_in
      posted_then = rw found

      after_done : is_posted_on line (take 200 (drop (p * 200) m)) ≡ true
          → after_line (rows_of n m) line ≡ set (rows_of n m) p (posted_row line (take 200 (drop (p * 200) m)))
      unfolding after_line
      after_done h =
          rw (posted_then, h, found)
          (place_set (line_key line) (posted_row line (take 200 (drop (p * 200) m))) (rows_of n m) p e (rows_rise (rows_of n m) s.sound)
          (posted_key (rows_of n m) s line (take 200 (drop (p * 200) m)) found))

      after_left : is_posted_on line (take 200 (drop (p * 200) m)) ≡ false → after_line (rows_of n m) line ≡ rows_of n m
      unfolding after_line
      after_left h = rw (posted_then, h)

      pub line_found : (after : List ℕ) (r : Bool) → IsPut m p line after r → LineDone m n line after r
      line_found after true i =
          let h = i.put refl in
          record {
            posted_is = i.posted_is ∙ sym posted_then;
            rows_are = put_rows m after p _ h n place_within ∙ sym (after_done (sym i.posted_is));
            rest_kept = put_rest m after p _ h n place_within;
            same_length = h.same_length;
          }
      line_found after false i =
          let h = i.left refl in
          record {
            posted_is = i.posted_is ∙ sym posted_then;
            rows_are = ap (rows_of n) h ∙ sym (after_left (sym i.posted_is));
            rest_kept = ap (drop (n * 200)) h;
            same_length = ap length h;
          }
