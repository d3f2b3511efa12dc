-- Laws of parts written one behind the other: each part stands in its own columns, whatever the parts and their widths. Assumes nothing.
use Prim.Native.Nat.{ℕ, zero, suc, ◌+◌, ◌-◌, ◌≤◌, ◌<◌}
use mathlib.Core.Path.{◌≡◌, refl, sym, ap, ◌∙◌}
use mathlib.Core.List.{List, [], ◌∷◌, ◌++◌, map, append_assoc, append-nil}
use native.Mathlib.Omega.{arith}
use lib.ListN.{length, get_or, take, drop, length-append, length-drop}
use lib.Seq.{drop-drop, drop_at, take-suc, get_or-drop}
use Rattle.text.specs.Fields.{columns}
use Rattle.text.specs.Blocks.{joined}
use Rattle.text.proofs.ColumnsLaws.{columns_between}

-- a part and others behind it, as `a ++ b ++ c` reads
abbrev pub appended : List ℕ → List (List ℕ) → List ℕ
appended a [] = a
appended a (b ∷ bs) = appended (a ++ b) bs

-- how many columns stand before part i of parts of these widths
abbrev pub columns_before : ℕ → List ℕ → ℕ
columns_before zero widths = 0
columns_before (suc i) [] = 0
columns_before (suc i) (w ∷ widths) = w + columns_before i widths

appended-joined : (a : List ℕ) (bs : List (List ℕ)) → appended a bs ≡ a ++ joined bs
unfolding joined
appended-joined a [] = sym (append-nil a)
appended-joined a (b ∷ bs) = appended-joined (a ++ b) bs ∙ append_assoc a b (joined bs)

-- columns behind a part are columns of the rest
columns_rest : (p rest : List ℕ) (x y : ℕ) → columns (length p + x + 1) (length p + y) (p ++ rest) ≡ columns (x + 1) y rest
columns_rest p rest x y =
    let w : length p + y + 1 - (length p + x + 1) ≡ y + 1 - (x + 1) = omega arith in
    let k : length p + x + 1 - 1 ≡ length p + x = omega arith in
    let j : x + 1 - 1 ≡ x = omega arith in
    rw (w, k, j)
    (ap (take (y + 1 - (x + 1))) (sym (drop-drop x (length p) (p ++ rest)) ∙ ap (drop x) (drop_at p rest (length p) refl)))

columns-joined : (ps : List (List ℕ)) (i : ℕ)
    → columns (columns_before i (map length ps) + 1) (columns_before (suc i) (map length ps)) (joined ps) ≡ get_or ps i []
unfolding joined
columns-joined [] zero = refl
columns-joined [] (suc i) = refl
columns-joined (p ∷ ps) zero = columns_between (0 + 1) (length p + 0) [] p (joined ps) refl (omega arith)
columns-joined (p ∷ ps) (suc i) =
    columns_rest p (joined ps) (columns_before i (map length ps)) (columns_before (suc i) (map length ps)) ∙ columns-joined ps i

-- part i in its columns
pub columns-appended : (widths : List ℕ) (a : List ℕ) (bs : List (List ℕ)) → map length (a ∷ bs) ≡ widths
    → (i : ℕ) → columns (columns_before i widths + 1) (columns_before (suc i) widths) (appended a bs) ≡ get_or (a ∷ bs) i []
unfolding joined
columns-appended widths a bs e i = rw (← e, appended-joined a bs) (columns-joined (a ∷ bs) i)

length-joined : (ps : List (List ℕ)) → length (joined ps) ≡ columns_before (length (map length ps)) (map length ps)
unfolding joined
length-joined [] = refl
length-joined (p ∷ ps) = length-append p (joined ps) ∙ ap (λ (n : ℕ). length p + n) (length-joined ps)

-- all of them are as long as their widths together
pub length-appended : (widths : List ℕ) (a : List ℕ) (bs : List (List ℕ)) → map length (a ∷ bs) ≡ widths
    → length (appended a bs) ≡ columns_before (length widths) widths
unfolding joined
length-appended widths a bs e = rw (← e, appended-joined a bs) (length-joined (a ∷ bs))

-- a part with one byte more at its end
pub part_more : (s : List ℕ) (a i : ℕ) → a ≤ i → i < length s
    → take (i - a) (drop a s) ++ get_or s i 0 ∷ [] ≡ take (i + 1 - a) (drop a s)
part_more s a i h k =
    let w : i + 1 - a ≡ suc (i - a) = omega arith in
    let l : i - a < length (drop a s) = rw (length-drop a s) (omega arith) in
    let g : a + (i - a) ≡ i = omega arith in
    rw (w, take-suc (drop a s) (i - a) 0 l, get_or-drop a s (i - a) 0, g)
