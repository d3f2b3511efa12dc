-- Laws of the file's refusals: what 23 looks at, and what is known of a file that none refuses. Assumes nothing.
use Prim.Native.Nat.{ℕ, ◌+◌, ◌-◌, ◌*◌, ◌/◌, ◌%◌, ◌≤◌}
use mathlib.Core.Path.{◌≡◌, refl}
use mathlib.Core.List.{List}
use mathlib.Core.Bool.{Bool, true, false, not, ◌&&◌, ◌||◌}
use native.Mathlib.Omega.{arith}
use borrow.Author.Tests.{ltb-false, eqb-false, eqb-true}
use lib.Dec.{eqb, ltb}
use lib.ListN.{length, take, drop, length-take, length-drop}
use Rattle.answers.specs.Answer.{refuse_if}
use Rattle.text.specs.Fields.{columns, same_bytes}
use Rattle.text.specs.Blocks.{blocks}
use Rattle.text.proofs.FieldsLaws.{length-columns}
use Rattle.collectionfile.specs.Line.{collected, adjusted}
use Rattle.collectionfile.specs.File.{line_count, lines_in, last_in, refusal22, total_text, lines_above, is_total, refusal23, refusal24, file_refusal}
use Rattle.collectionfile.specs.Parts.{AreLineTotals, is_last_right}
use Rattle.collectionfile.specs.declared.file.Totals.{Totals}

-- ---- the last record

-- the width of columns of a record, as code cuts it out
pub last_width : (file : List ℕ) (at a z : ℕ) → 1 ≤ a → a ≤ z + 1 → z ≤ 240 → at + 240 ≤ length file
    → length (columns a z (take (at + 240 - at) (drop at file))) ≡ z + 1 - a
last_width file at a z l o h e =
    length-columns a z (take (at + 240 - at) (drop at file))
    (record { low = l; ordered = o; high = simp (length-take, length-drop) (omega arith) })

pub last_is : (file : List ℕ) (count : ℕ) (last a b d : List ℕ) (t : Totals) (x y z : Bool) → last ≡ take 240 (drop (count * 240) file)
    → AreLineTotals (blocks 240 count file) t → a ≡ columns 6 14 last → x ≡ same_bytes a total_text → b ≡ columns 35 49 last
    → y ≡ is_total b t.adjustments → d ≡ columns 50 64 last → z ≡ is_total d t.collections → (x && (y && z)) ≡ is_last_right count file
unfolding is_last_right
last_is file count last a b d t x y z el et ea ex eb ey ed ez =
    rw (ex, ey, ez, ea, eb, ed, et.adjustments_are, et.collections_are, el)

not_all : (a b d : Bool) → (not a || (not b || not d)) ≡ not (a && (b && d))
not_all true true d = refl
not_all true false d = refl
not_all false b d = refl

pub refusal_23 : (file : List ℕ) → refusal23 file ≡ not (is_last_right (length file / 240 - 1) file)
unfolding refusal23 is_last_right last_in lines_in line_count
refusal_23 file =
    not_all (same_bytes (columns 6 14 (last_in file)) total_text) (is_total (columns 35 49 (last_in file)) (lines_above adjusted (lines_in file)))
    (is_total (columns 50 64 (last_in file)) (lines_above collected (lines_in file)))

-- ---- 22 and 24

module _ (limit : ℕ) (file : List ℕ) (room : ℕ) (e : file_refusal limit file room ≡ 0) where
  passed_22 : refusal22 limit file ≡ false
  unfolding file_refusal
  passed_22 = go (refusal22 limit file) (refusal23 file) (refusal24 file room) e
    where
      go : (a b c : Bool) → refuse_if a 22 (refuse_if b 23 (refuse_if c 24 0)) ≡ 0 → a ≡ false
      go true b c e = absurd (omega arith)
      go false b c e = refl

  -- a last record, and no more records than the limit
  pub file_whole : (1 ≤ length file / 240) × (length file / 240 ≤ limit + 1)
  unfolding refusal22
  file_whole =
      go (eqb (length file) 0) refl (eqb (length file % 240) 0) refl (ltb (limit + 1) (length file / 240)) refl passed_22
    where
      go : (a : Bool) → eqb (length file) 0 ≡ a → (b : Bool) → eqb (length file % 240) 0 ≡ b → (d : Bool)
          → ltb (limit + 1) (length file / 240) ≡ d → (a || not b || d) ≡ false → (1 ≤ length file / 240) × (length file / 240 ≤ limit + 1)
      go false f true g false h z =
          (omega (arith, eqb-false (length file) 0 f, eqb-true (length file % 240) 0 g), ltb-false (limit + 1) (length file / 240) h)
      go true f b g d h z = let w : ◌≡◌ {A = ℕ} 0 1 = cc in absurd (omega arith)
      go false f false g d h z = let w : ◌≡◌ {A = ℕ} 0 1 = cc in absurd (omega arith)
      go false f true g true h z = let w : ◌≡◌ {A = ℕ} 0 1 = cc in absurd (omega arith)

  -- the list has space for them
  pub file_room : length file / 240 - 1 ≤ room
  unfolding file_refusal refusal24 line_count
  file_room = go (refusal22 limit file) (refusal23 file) (ltb room (length file / 240 - 1)) refl e
    where
      go : (a b c : Bool) → ltb room (length file / 240 - 1) ≡ c → refuse_if a 22 (refuse_if b 23 (refuse_if c 24 0)) ≡ 0 → length file / 240 - 1 ≤ room
      go a b false t e = ltb-false room (length file / 240 - 1) t
      go true b true t e = absurd (omega arith)
      go false true true t e = absurd (omega arith)
      go false false true t e = absurd (omega arith)
