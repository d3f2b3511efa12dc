-- The filler of a record in parts of eight, eight and one. Assumes nothing.
use mathlib.Core.Path.{◌≡◌, ap, ◌∙◌}
use mathlib.Core.Bool.{◌&&◌, and-true}
use mathlib.Core.List.{List, [], ◌∷◌}
use Prim.Native.Nat.{ℕ}
use native.Mathlib.Omega.{arith}
use lib.Dec.{eqb, lit≤}
use lib.ListN.{length, get_or, take, drop}
use lib.Seq.{drop-cons}
use Rattle.text.specs.Characters.{is_byte, space}
use Rattle.text.specs.Fields.{columns, every, is_blank}
use Rattle.text.proofs.ColumnsLaws.{columns_split}
use Rattle.layout.proofs.LocalsLaws.{every_append}

pub filler_parts : (rec : List ℕ) → length rec ≡ 245
    → is_blank (columns 228 244 rec) ≡ (is_blank (take 8 (drop 227 rec)) && (is_blank (take 8 (drop 235 rec)) && eqb (get_or rec 243 0) space))
unfolding is_blank
filler_parts rec l =
    let w : take 1 (drop 243 rec) ≡ get_or rec 243 0 ∷ [] = rw (drop-cons rec 243 0 (omega arith)) in
    let a = columns_split 228 235 244 rec (lit≤ tt) (lit≤ tt) (lit≤ tt) in
    let b = columns_split 236 243 244 rec (lit≤ tt) (lit≤ tt) (lit≤ tt) in
    let f = is_byte space in
    ap (every f) a
    ∙ every_append f (columns 228 235 rec) (columns 236 244 rec)
    ∙ rw b
    (rw (every_append f (columns 236 243 rec) (columns 244 244 rec), w, and-true (eqb (get_or rec 243 0) space)))
