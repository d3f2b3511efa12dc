-- For the contracts of inner functions; no rule of the papers stands here.
-- What the code's answers stand for. Assumes nothing.
use Rattle.std.specs.Prelude.{ℕ, ◌*◌, ◌≡◌, List, Bool, ◌&&◌, take, drop, Option as Read, Some, None}
use Rattle.std.proofs.Math.Option.{Option, none, some}
use Rattle.text.specs.Blocks.{blocks}
use Rattle.text.specs.Fields.{same_bytes}
use Rattle.collectionfile.specs.Chart05.{last_control, last_adjustments, last_collections}
use Rattle.collectionfile.specs.Line.{collected, adjusted, is_right}
use Rattle.collectionfile.specs.File.{lines_above, is_total, total_text}
use Rattle.collectionfile.specs.declared.file.Totals.{Totals}
use Rattle.collectionfile.specs.declared.cents.Cents.{Cents}
use Rattle.collectionfile.specs.declared.line.Amounts.{Amounts}

-- the cents of an amount that was read, none if it is bad
abbrev pub cents_in : Read Cents → Option ℕ
cents_in None = none
cents_in (Some cents) = some cents.0

-- both amounts of a line, and whether it is right
pub record AreAmounts (line : List ℕ) (a : Amounts) : Type 0 where
  pub right_is : a.right ≡ is_right line
  pub collection_is : a.collection.0 ≡ collected line
  pub adjustment_is : a.adjustment.0 ≡ adjusted line

-- how many lines have an adjustment and a collection above zero
pub record AreLineTotals (lines : List (List ℕ)) (t : Totals) : Type 0 where
  pub adjustments_are : t.adjustments ≡ lines_above adjusted lines
  pub collections_are : t.collections ≡ lines_above collected lines

-- the record behind `count` lines
abbrev pub last_behind : ℕ → List ℕ → List ℕ
last_behind count file = take 240 (drop (count * 240) file)

-- it is right as the last one
unfoldable pub is_last_right : ℕ → List ℕ → Bool
is_last_right count file =
    same_bytes (last_control (last_behind count file)) total_text
    && (is_total (last_adjustments (last_behind count file)) (lines_above adjusted (blocks 240 count file))
    && is_total (last_collections (last_behind count file)) (lines_above collected (blocks 240 count file)))
