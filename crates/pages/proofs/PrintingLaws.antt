-- Laws of printing: what a row adds, and what is printed with what is still to be printed makes the whole. Assumes nothing.
use Prim.Native.Nat.{ℕ, ◌+◌, ◌*◌, ◌≤◌, ◌<◌}
use mathlib.Core.Path.{◌≡◌, refl, sym, ap, ◌∙◌}
use mathlib.Core.List.{List, [], ◌∷◌, ◌++◌, append_assoc, append-nil}
use mathlib.Core.Bool.{Bool, true, false, not, cond}
use native.Mathlib.Omega.{arith}
use lib.Dec.{eqb}
use lib.ListN.{length, take, drop, length-append, drop_of_length-le}
use borrow.Author.Tests.{eq-eqb, ne_eqb, eqb-false}
use Rattle.text.specs.Blocks.{blocks, Holds}
use Rattle.text.proofs.BlocksLaws.{blocks-next, length-blocks}
use Rattle.text.proofs.HoldsLaws.{holds_count, holds_kept, holds_then}
use Rattle.casemaster.specs.Row.{is_live}
use Rattle.casemaster.specs.Master.{rows_of}
use Rattle.pages.specs.Forms.{case_line, heading, foot}
use Rattle.pages.specs.Pages.{case_lines}
use Rattle.pages.proofs.CaseLinesLaws.{no_lines, lines_more}
use Rattle.pages.specs.Steps.{heading_before, foot_behind, on_next, number_next, going_on, row_lines, RowPrinted}

-- nothing written
pub holds_none : (out : List ℕ) (k : ℕ) (added : List (List ℕ)) → added ≡ [] → Holds 132 out out k (blocks 132 k out ++ added)
holds_none out k added e = rw (e, append-nil (blocks 132 k out)) (holds_kept 132 out k)

-- how many blocks a buffer holds once some are added
pub count_added : {out after : List ℕ} {k' : ℕ} (k : ℕ) (added : List (List ℕ)) → Holds 132 out after k' (blocks 132 k out ++ added)
    → k' ≡ k + length added
count_added {out} k added h =
    holds_count 132 h ∙ length-append (blocks 132 k out) added ∙ ap (λ (z : ℕ). z + length added) (length-blocks 132 k out)

-- a heading where the page has no rows, and a foot where it ends
pub opened : {out after line : List ℕ} {k' : ℕ} (k number on : ℕ) → on ≡ 0 → line ≡ heading number
    → Holds 132 out after k' (blocks 132 k out ++ line ∷ []) → Holds 132 out after k' (blocks 132 k out ++ heading_before number on)
opened k number on z e h = rw (z, ← e) h

pub closed : {out after line : List ℕ} {k' : ℕ} (k on : ℕ) (ends : Bool) → ends ≡ true → line ≡ foot on
    → Holds 132 out after k' (blocks 132 k out ++ line ∷ []) → Holds 132 out after k' (blocks 132 k out ++ cond ends (foot on ∷ []) [])
closed k on ends z e h = rw (z, ← e) h

-- ---- a row

module _ (out : List ℕ) (k number on : ℕ) (row : List ℕ) where
  pub row_dead : is_live row ≡ false → RowPrinted out k number on row out k number on
  unfolding row_lines
  row_dead d = record { held = rw (d, append-nil (blocks 132 k out)) (holds_kept 132 out k); number_is = rw d; on_is = rw d }

  module _ (d : is_live row ≡ true) where
    pub row_room : length (row_lines number on row) ≡ length (heading_before number on) + 1 + length (foot_behind (on + 1))
    unfolding row_lines
    row_room =
        rw d
        (length-append (heading_before number on ++ case_line row ∷ []) (foot_behind (on + 1))
        ∙ ap (λ (z : ℕ). z + length (foot_behind (on + 1))) (length-append (heading_before number on) (case_line row ∷ [])))

    pub row_live : {out1 out2 out3 line : List ℕ} {k1 k2 k3 : ℕ} → line ≡ case_line row
        → Holds 132 out out1 k1 (blocks 132 k out ++ heading_before number on)
        → Holds 132 out1 out2 k2 (blocks 132 k1 out1 ++ line ∷ [])
        → Holds 132 out2 out3 k3 (blocks 132 k2 out2 ++ foot_behind (on + 1))
        → Holds 132 out out3 k3 (blocks 132 k out ++ row_lines number on row)
    unfolding row_lines
    row_live e h1 h2 h3 =
        let b = blocks 132 k out in
        let o = heading_before number on in
        let g2 = rw e at h2 in
        let g = holds_then 132 (foot_behind (on + 1)) (holds_then 132 (case_line row ∷ []) h1 g2) h3 in
        let a : ((b ++ o) ++ case_line row ∷ []) ++ foot_behind (on + 1) ≡ b ++ ((o ++ case_line row ∷ []) ++ foot_behind (on + 1)) = simp append_assoc in
        rw d (rw a at g)

    pub row_full : {after : List ℕ} {k' : ℕ} → on + 1 ≡ 58 → Holds 132 out after k' (blocks 132 k out ++ row_lines number on row)
        → RowPrinted out k number on row after k' (number + 1) 0
    row_full e h = record { held = h; number_is = rw (d, eq-eqb (on + 1) 58 e); on_is = rw (d, eq-eqb (on + 1) 58 e) }

    pub row_more : {after : List ℕ} {k' : ℕ} → (on + 1 ≡ 58 → ⊥) → Holds 132 out after k' (blocks 132 k out ++ row_lines number on row)
        → RowPrinted out k number on row after k' number (on + 1)
    row_more e h = record { held = h; number_is = rw (d, ne_eqb (on + 1) 58 e); on_is = rw (d, ne_eqb (on + 1) 58 e) }

-- ---- all rows

module _ (n : ℕ) (m : List ℕ) (i : ℕ) where
  abbrev row : List ℕ
  row = take 200 (drop (i * 200) m)

  lines_next : i < n → case_lines (drop i (rows_of n m)) ≡ cond (is_live row) (case_line row ∷ []) [] ++ case_lines (drop (i + 1) (rows_of n m))
  lines_next l = rw (blocks-next 200 n m i l) (lines_more row (drop (i + 1) (rows_of n m)))

  pub lines_end : n ≤ i → case_lines (drop i (rows_of n m)) ≡ []
  lines_end l = rw (drop_of_length-le (rows_of n m) {i = i} (rw (length-blocks 200 n m) l)) no_lines

  pub count_next : i < n
      → length (case_lines (drop i (rows_of n m))) ≡ cond (is_live row) 1 0 + length (case_lines (drop (i + 1) (rows_of n m)))
  count_next l = rw (lines_next l) (go (is_live row) (case_lines (drop (i + 1) (rows_of n m))))
    where
      go : (b : Bool) (ls : List (List ℕ)) → length (cond b (case_line row ∷ []) [] ++ ls) ≡ cond b 1 0 + length ls
      go true ls = omega arith
      go false ls = omega arith

  going_step : i < n → (number on number' on' : ℕ) → number' ≡ cond (is_live row) (number_next number on) number
      → on' ≡ cond (is_live row) (on_next on) on
      → going_on number on (case_lines (drop i (rows_of n m)))
      ≡ row_lines number on row ++ going_on number' on' (case_lines (drop (i + 1) (rows_of n m)))
  unfolding going_on row_lines
  going_step l number on number' on' en eo = rw (lines_next l, en, eo) (go (is_live row) (case_lines (drop (i + 1) (rows_of n m))))
    where
      go : (b : Bool) (ls : List (List ℕ))
          → going_on number on (cond b (case_line row ∷ []) [] ++ ls)
          ≡ cond b (heading_before number on ++ (case_line row ∷ []) ++ foot_behind (on + 1)) []
          ++ going_on (cond b (number_next number on) number) (cond b (on_next on) on) ls
      go true ls = refl
      go false ls = refl

-- i rows done, k lines of every kind written, `on` of them on the page with that number
pub record Printing (n : ℕ) (m before out : List ℕ) (k number on i : ℕ) : Type 0 where
  pub within : i ≤ n
  pub few : on < 58
  pub early : number ≤ i + 1
  pub wide : length out ≡ length before
  pub held : Holds 132 before out k (blocks 132 k out)
  pub all : blocks 132 k out ++ going_on number on (case_lines (drop i (rows_of n m))) ≡ going_on 1 0 (case_lines (rows_of n m))

module _ (n : ℕ) (m before : List ℕ) where
  abbrev whole : List (List ℕ)
  whole = going_on 1 0 (case_lines (rows_of n m))

  pub printing_start : Printing n m before before 0 1 0 0
  unfolding blocks
  printing_start =
      record {
        within = omega arith;
        few = omega arith;
        early = omega arith;
        wide = refl;
        held = holds_kept 132 before 0;
        all = refl;
      }

  module _ {out : List ℕ} {k number on i : ℕ} (p : Printing n m before out k number on i) (r : length whole * 132 ≤ length before) where
    -- what is written and what is still to come
    all_lines_lem : k + length (going_on number on (case_lines (drop i (rows_of n m)))) ≡ length whole
    all_lines_lem =
        ap (λ (z : ℕ). z + length (going_on number on (case_lines (drop i (rows_of n m))))) (sym (length-blocks 132 k out))
        ∙ sym (length-append (blocks 132 k out) (going_on number on (case_lines (drop i (rows_of n m)))))
        ∙ ap length p.all

    pub printing_room : i < n → (k + length (row_lines number on (take 200 (drop (i * 200) m)))) * 132 ≤ length out
    printing_room l =
        let row = take 200 (drop (i * 200) m) in
        let rest = going_on (cond (is_live row) (number_next number on) number) (cond (is_live row) (on_next on) on) (case_lines (drop (i + 1) (rows_of n m))) in
        let e : length (going_on number on (case_lines (drop i (rows_of n m)))) ≡ length (row_lines number on row) + length rest =
        ap length (going_step n m i l number on _ _ refl refl) ∙ length-append (row_lines number on row) rest in
        omega (arith, e, all_lines_lem, p.wide)

    pub printing_next : (out' : List ℕ) (k' number' on' : ℕ) → i < n → length out' ≡ length out
        → RowPrinted out k number on (take 200 (drop (i * 200) m)) out' k' number' on' → Printing n m before out' k' number' on' (i + 1)
    printing_next out' k' number' on' l w q =
        let row = take 200 (drop (i * 200) m) in
        let both = holds_then 132 (row_lines number on row) p.held q.held in
        let rest = going_on number' on' (case_lines (drop (i + 1) (rows_of n m))) in
        record {
          within = omega arith;
          few = on_few (is_live row) (eqb (on + 1) 58) refl q.on_is;
          early = number_early (is_live row) (eqb (on + 1) 58) q.number_is;
          wide = w ∙ p.wide;
          held = rw both.blocks_are both;
          all =
              ap (λ (z : List (List ℕ)). z ++ rest) q.held.blocks_are
              ∙ append_assoc (blocks 132 k out) (row_lines number on row) rest
              ∙ ap (λ (z : List (List ℕ)). blocks 132 k out ++ z) (sym (going_step n m i l number on number' on' q.number_is q.on_is))
              ∙ p.all;
        }
      where
        on_few : (b t : Bool) → eqb (on + 1) 58 ≡ t → on' ≡ cond b (cond t 0 (on + 1)) on → on' < 58
        on_few true true h e = omega arith
        on_few true false h e = omega (arith, p.few, eqb-false (on + 1) 58 h)
        on_few false true h e = omega (arith, p.few)
        on_few false false h e = omega (arith, p.few)

        number_early : (b t : Bool) → number' ≡ cond b (cond t (number + 1) number) number → number' ≤ i + 1 + 1
        number_early true true e = omega (arith, p.early)
        number_early true false e = omega (arith, p.early)
        number_early false true e = omega (arith, p.early)
        number_early false false e = omega (arith, p.early)

    module _ (l : n ≤ i) where
      last_lines : going_on number on (case_lines (drop i (rows_of n m))) ≡ cond (not (eqb on 0)) (foot on ∷ []) []
      unfolding going_on
      last_lines = rw (lines_end n m i l)

      pub last_room : (k + length (cond (not (eqb on 0)) (foot on ∷ []) [])) * 132 ≤ length out
      last_room = omega (arith, ap length last_lines, all_lines_lem, p.wide)

      pub printing_end : (after : List ℕ) (k' : ℕ) → Holds 132 out after k' (blocks 132 k out ++ cond (not (eqb on 0)) (foot on ∷ []) [])
          → Holds 132 before after k' whole
      printing_end after k' h =
          let both = holds_then 132 (cond (not (eqb on 0)) (foot on ∷ []) []) p.held h in
          let e : blocks 132 k out ++ cond (not (eqb on 0)) (foot on ∷ []) [] ≡ whole =
          ap (λ (z : List (List ℕ)). blocks 132 k out ++ z) (sym last_lines) ∙ p.all in
          record { blocks_are = both.blocks_are ∙ e; rest_kept = both.rest_kept }
