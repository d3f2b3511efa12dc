-- Laws of reconciliation: the fields that make a REC and an RCT record, the records and the counts from any row on, and the buffer that
-- the records are written to. Assumes nothing.
use Prim.Native.Nat.{ℕ, ◌+◌, ◌-◌, ◌*◌, ◌/◌, ◌≤◌, ◌<◌}
use mathlib.Core.Path.{◌≡◌, refl, sym, ap, ◌∙◌}
use mathlib.Core.List.{List, [], ◌∷◌, ◌++◌, map, append_assoc, append-nil}
use mathlib.Core.Bool.{Bool, true, false, cond, ◌&&◌}
use native.Mathlib.Omega.{arith}
use borrow.Rule.Slice.PartMut.{put_mid, Post-is}
use lib.Dec.{eqb, lit≤}
use lib.ListN.{length, get_or, take, drop, length-append, drop_of_length-le}
use Rattle.std.specs.Simd.{first_chunks}
use Rattle.text.specs.Characters.{A, N}
use Rattle.text.specs.Fields.{placed, digit_field, spaces}
use Rattle.exclusionsets.specs.Exclusions.{exclusion_columns}
use Rattle.text.specs.Blocks.{blocks, spliced, Holds}
use Rattle.casemaster.specs.Row.{row_exclusions}
use Rattle.casemaster.specs.Master.{rows_of, rows_that, row_in}
use Rattle.casemaster.proofs.PassLaws.{chunk_in, length-chunks}
use Rattle.text.proofs.FieldsLaws.{one_column}
use Rattle.text.proofs.NumberLaws.{length_digits}
use Rattle.text.proofs.BlocksLaws.{blocks-next, length-blocks, holds_append}
use Rattle.reconciliation.specs.Parts.{with_identity, with_case, with_end}
use Rattle.reconciliation.specs.Reconcile.{REC, RCT, is_reported, rec_record, rec_records, reported_of, rct_record}
use Rattle.text.proofs.ColumnsWritten.{written_none, written-field, written-columns, written_all}
use Rattle.text.proofs.SplicedLaws.{take_through}
use Rattle.exclusionsets.proofs.ExclusionsLaws.{columns-length}
use Rattle.text.proofs.HoldsLaws.{holds_kept, holds_then}

-- ---- the records, field by field

-- what is spliced in at the front stands there
pub front-spliced : (d s b : List ℕ) → b ≡ spliced d 0 s → take (length s - 0) b ≡ s
front-spliced d s b e = let z : length s - 0 ≡ length s = omega arith in rw (z, e) (take_through d 0 s (length s) (omega arith) (omega arith))

-- the end of a REC record, by the byte that the exclusions are
pub end_written : (row s0 names s1 s2 s3 : List ℕ) → s1 ≡ placed 80 81 (spaces 2) s0 → names ≡ exclusion_columns (get_or row 194 0)
    → s2 ≡ placed 82 105 names s1 → s3 ≡ placed 106 245 (spaces 140) s2 → s3 ≡ with_end row s0
end_written row s0 names s1 s2 s3 e1 en e2 e3 = rw (e3, e2, e1, en, one_column 195 row (lit≤ tt))

-- its three parts make it
pub rec_filled : (row s0 : List ℕ) → length row ≡ 200 → length s0 ≡ 245
    → (s1 s2 s3 : List ℕ) → s1 ≡ with_identity row s0 → s2 ≡ with_case row s1 → s3 ≡ with_end row s2 → s3 ≡ rec_record row
unfolding rec_record
rec_filled row s0 w w0 s1 s2 s3 e1 e2 e3 =
    let f1 = written-field (written_none s0) 1 3 REC refl refl refl (omega arith) in
    let f2 = written-columns f1 4 5 200 1 2 row refl w (rw w0) in
    let f3 = written-columns f2 6 8 200 13 15 row refl w (rw w0) in
    let f4 = written-columns f3 9 17 200 3 11 row refl w (rw w0) in
    let f5 = written-columns f4 18 32 200 16 30 row e1 w (rw w0) in
    let f6 = written-columns f5 33 52 200 31 50 row refl w (rw w0) in
    let f7 = written-columns f6 53 62 200 51 60 row refl w (rw w0) in
    let f8 = written-columns f7 63 70 200 66 73 row refl w (rw w0) in
    let f9 = written-columns f8 71 71 200 12 12 row refl w (rw w0) in
    let f10 = written-columns f9 72 79 200 187 194 row e2 w (rw w0) in
    let f11 = written-field f10 80 81 (spaces 2) refl refl refl (omega arith) in
    let names = exclusion_columns (get_or (row_exclusions row) 0 0) in
    let f12 = written-field f11 82 105 names refl refl (omega (arith, columns-length (get_or (row_exclusions row) 0 0))) (omega arith) in
    let f13 = written-field f12 106 245 (spaces 140) e3 refl refl (omega arith) in
    written_all f13 (sym w0)

pub rct_filled : (state date : List ℕ) (tanf non_tanf total : ℕ) → length state ≡ 2 → length date ≡ 8
    → (s1 s2 s3 s4 s5 s6 : List ℕ)
    → s1 ≡ placed 1 3 RCT (spaces 245)
    → s2 ≡ placed 4 5 state s1
    → s3 ≡ placed 6 14 (digit_field 9 tanf) s2
    → s4 ≡ placed 15 23 (digit_field 9 non_tanf) s3
    → s5 ≡ placed 24 32 (digit_field 9 total) s4
    → s6 ≡ placed 33 40 date s5
    → s6 ≡ RCT ++ state ++ digit_field 9 tanf ++ digit_field 9 non_tanf ++ digit_field 9 total ++ date ++ spaces 205
rct_filled state date tanf non_tanf total ws wd s1 s2 s3 s4 s5 s6 e1 e2 e3 e4 e5 e6 =
    let f1 = written-field (written_none (spaces 245)) 1 3 RCT e1 refl refl (lit≤ tt) in
    let f2 = written-field f1 4 5 state e2 refl (omega arith) (lit≤ tt) in
    let f3 = written-field f2 6 14 (digit_field 9 tanf) e3 refl (omega (arith, length_digits 9 tanf)) (lit≤ tt) in
    let f4 = written-field f3 15 23 (digit_field 9 non_tanf) e4 refl (omega (arith, length_digits 9 non_tanf)) (lit≤ tt) in
    let f5 = written-field f4 24 32 (digit_field 9 total) e5 refl (omega (arith, length_digits 9 total)) (lit≤ tt) in
    (written-field f5 33 40 date e6 refl (omega arith) (lit≤ tt)).is

-- it is the definition's where the counts are
pub rct_counted : (state date : List ℕ) (rows : List (List ℕ)) (tanf non_tanf total : ℕ) (control : List ℕ)
    → tanf ≡ reported_of A state rows → non_tanf ≡ reported_of N state rows → total ≡ length (rec_records state rows)
    → control ≡ RCT ++ state ++ digit_field 9 tanf ++ digit_field 9 non_tanf ++ digit_field 9 total ++ date ++ spaces 205
    → control ≡ rct_record state date rows
unfolding rct_record
rct_counted state date rows tanf non_tanf total control a n l e = e ∙ rw (a, n, l)

-- ---- the records and the counts, from any row on

module _ (state : List ℕ) where
  rec_cons : (row : List ℕ) (rows : List (List ℕ)) → rec_records state (row ∷ rows) ≡ rec_records state (row ∷ []) ++ rec_records state rows
  unfolding rec_records rows_that
  rec_cons row rows = go (is_reported state row)
    where
      go : (b : Bool)
          → map rec_record (cond b (row ∷ []) [] ++ rows_that (is_reported state) rows)
          ≡ map rec_record (cond b (row ∷ []) [] ++ []) ++ map rec_record (rows_that (is_reported state) rows)
      go true = refl
      go false = refl

  -- a row that is not reported, and one that is
  rec_none : (row : List ℕ) → is_reported state row ≡ false → rec_records state (row ∷ []) ≡ []
  unfolding rec_records rows_that
  rec_none row t = rw t

  pub rec_one : (row : List ℕ) → is_reported state row ≡ true → rec_records state (row ∷ []) ≡ rec_record row ∷ []
  unfolding rec_records rows_that
  rec_one row t = rw t

  -- how many records a row has
  rec_count : (row : List ℕ) → length (rec_records state (row ∷ [])) ≡ cond (is_reported state row) 1 0
  unfolding rec_records rows_that
  rec_count row = go (is_reported state row)
    where
      go : (b : Bool) → length (map rec_record (cond b (row ∷ []) [] ++ [])) ≡ cond b 1 0
      go true = refl
      go false = refl

  module _ (n : ℕ) (m : List ℕ) (i : ℕ) where
    rec_next : i < n
        → rec_records state (drop i (rows_of n m))
        ≡ rec_records state (take 200 (drop (i * 200) m) ∷ []) ++ rec_records state (drop (i + 1) (rows_of n m))
    rec_next l = rw (blocks-next 200 n m i l) (rec_cons (take 200 (drop (i * 200) m)) (drop (i + 1) (rows_of n m)))

    pub rec_end : n ≤ i → rec_records state (drop i (rows_of n m)) ≡ []
    unfolding rec_records rows_that
    rec_end l = rw (drop_of_length-le (rows_of n m) {i = i} (rw (length-blocks 200 n m) l))

    pub count_next : i < n
        → length (rec_records state (drop i (rows_of n m)))
        ≡ cond (is_reported state (take 200 (drop (i * 200) m))) 1 0 + length (rec_records state (drop (i + 1) (rows_of n m)))
    count_next l =
        let row = take 200 (drop (i * 200) m) in
        let rest = rec_records state (drop (i + 1) (rows_of n m)) in
        ap length (rec_next l) ∙ length-append (rec_records state (row ∷ [])) rest ∙ ap (λ (z : ℕ). z + length rest) (rec_count row)

    module _ (case_type : ℕ) where
      pub reported_next : i < n
          → reported_of case_type state (drop i (rows_of n m))
          ≡ cond (is_reported state (take 200 (drop (i * 200) m)) && eqb (get_or (take 200 (drop (i * 200) m)) 11 0) case_type) 1 0
          + reported_of case_type state (drop (i + 1) (rows_of n m))
      unfolding reported_of
      reported_next l = rw (blocks-next 200 n m i l, one_column 12 (take 200 (drop (i * 200) m)) (lit≤ tt))

      pub reported_end : n ≤ i → reported_of case_type state (drop i (rows_of n m)) ≡ 0
      unfolding reported_of
      reported_end l = rw (drop_of_length-le (rows_of n m) {i = i} (rw (length-blocks 200 n m) l))

-- ---- the walk over the first n rows, as arrays of the master

module _ (n : ℕ) (m : List ℕ) (all : List (List ℕ)) (e : all ≡ first_chunks 200 (length m / 200) m) (h : n * 200 ≤ length m) where
  -- it has n turns
  pub walk-length : length (take n all) ≡ n
  walk-length =
      let z : n - 0 ≡ n = omega arith in
      rw z at (length-chunks m all e 0 n h)

  -- the array of a turn is the row
  pub walk_row : (i : ℕ) → i < n → get_or (take n all) i [] ≡ row_in m i
  walk_row i l =
      let z : n - 0 ≡ n = omega arith in
      let p : 0 + i ≡ i = omega arith in
      rw (z, p) at (chunk_in m all e 0 n h i [] (omega arith))

-- ---- the buffer

-- a part put back
put-spliced : (out rec : List ℕ) (at end : ℕ) → end ≡ at + length rec → put_mid at (end - at) out rec ≡ spliced out at rec
unfolding spliced
put-spliced out rec at end e = rw (Post-is at end out (omega arith), e)

module _ (state : List ℕ) where
  -- a row that is not reported leaves the buffer, and one that is appends its record
  pub put_none : (row out : List ℕ) (k : ℕ) → is_reported state row ≡ false
      → Holds 245 out out k (blocks 245 k out ++ rec_records state (row ∷ []))
  put_none row out k t = rw (rec_none state row t, append-nil (blocks 245 k out)) (holds_kept 245 out k)

  pub put_one : (row rec out : List ℕ) (k : ℕ) → is_reported state row ≡ true → rec ≡ rec_record row → length rec ≡ 245
      → k * 245 + 245 ≤ length out
      → Holds 245 out (put_mid (k * 245) (k * 245 + 245 - k * 245) out rec) (k + 1) (blocks 245 k out ++ rec_records state (row ∷ []))
  put_one row rec out k t e w l =
      rw (rec_one state row t, ← e, put-spliced out rec (k * 245) (k * 245 + 245) (omega arith)) (holds_append 245 k out rec w l)

  module _ (n : ℕ) (m : List ℕ) where
    -- what is written of the records and those of the rows from i on are all of them
    pub record Writing (before out : List ℕ) (k i : ℕ) : Type 0 where
      pub wide : length out ≡ length before
      pub held : Holds 245 before out k (blocks 245 k out)
      pub all : blocks 245 k out ++ rec_records state (drop i (rows_of n m)) ≡ rec_records state (rows_of n m)

    pub writing_start : (out : List ℕ) → Writing out out 0 0
    unfolding blocks
    writing_start out = record { wide = refl; held = holds_kept 245 out 0; all = refl }

    module _ {before out : List ℕ} {k i : ℕ} (h : Writing before out k i) where
      -- there is room for the record of the row at i
      pub writing_room : i < n → length (rec_records state (rows_of n m)) * 245 ≤ length before
          → (k + length (rec_records state (take 200 (drop (i * 200) m) ∷ []))) * 245 ≤ length out
      writing_room l r =
          let one = rec_records state (take 200 (drop (i * 200) m) ∷ []) in
          let rest = rec_records state (drop (i + 1) (rows_of n m)) in
          let e : k + (length one + length rest) ≡ length (rec_records state (rows_of n m)) =
          ap (λ (z : ℕ). z + (length one + length rest)) (sym (length-blocks 245 k out))
          ∙ ap (λ (z : ℕ). length (blocks 245 k out) + z) (sym (ap length (rec_next state n m i l) ∙ length-append one rest))
          ∙ sym (length-append (blocks 245 k out) (rec_records state (drop i (rows_of n m))))
          ∙ ap length h.all in
          omega (arith, h.wide)

      pub writing_next : (out' : List ℕ) (k' : ℕ) → i < n → length out' ≡ length out
          → Holds 245 out out' k' (blocks 245 k out ++ rec_records state (take 200 (drop (i * 200) m) ∷ []))
          → Writing before out' k' (i + 1)
      writing_next out' k' l w g =
          let one = rec_records state (take 200 (drop (i * 200) m) ∷ []) in
          let rest = rec_records state (drop (i + 1) (rows_of n m)) in
          let both = holds_then 245 one h.held g in
          record {
            wide = w ∙ h.wide;
            held = rw both.blocks_are both;
            all =
                ap (λ (z : List (List ℕ)). z ++ rest) g.blocks_are
                ∙ append_assoc (blocks 245 k out) one rest
                ∙ ap (λ (z : List (List ℕ)). blocks 245 k out ++ z) (sym (rec_next state n m i l))
                ∙ h.all;
          }

      pub writing_end : n ≤ i → Holds 245 before out k (rec_records state (rows_of n m))
      writing_end l =
          let e : blocks 245 k out ≡ rec_records state (rows_of n m) =
          sym (append-nil (blocks 245 k out))
          ∙ ap (λ (z : List (List ℕ)). blocks 245 k out ++ z) (sym (rec_end state n m i l))
          ∙ h.all in
          record { blocks_are = e; rest_kept = h.held.rest_kept }
