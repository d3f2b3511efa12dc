-- Laws of rows moved inside a buffer: put at a place, pulled down, moved up. Assumes nothing.
use mathlib.Core.Path.{◌≡◌, refl, sym, ap, ◌∙◌}
use mathlib.Core.List.{List, ◌++◌, append_assoc}
use Prim.Native.Nat.{ℕ, ◌+◌, ◌-◌, ◌*◌, ◌≤◌}
use native.Mathlib.Nat.{sub_self}
use native.Mathlib.Omega.{arith}
use lib.ListN.{length, take, drop, length-append, length-take, length-drop, take-append-drop}
use lib.Seq.{paste, length-paste, length-take-le, take-append-le, drop-append-le, take-take, take-add, drop-drop, drop_at}
use Rattle.std.specs.List.{copy_within}
use Rattle.text.specs.Blocks.{spliced}
use Rattle.casemaster.specs.Master.{rows_of}
use Rattle.casemaster.specs.Search.{shifted, RowPut, Pulled, Raised}
use Rattle.text.proofs.SplicedLaws.{length-spliced, drop-take}
use Rattle.text.proofs.BlocksLaws.{blocks-append, blocks-front, blocks_prefix, holds_append, blocks_split, kept_further}

-- ---- a row put at a place

pub row_put : (m : List ℕ) (p : ℕ) (row : List ℕ) → length row ≡ 200 → p * 200 + 200 ≤ length m → RowPut m p row (spliced m (p * 200) row)
row_put m p row er h =
    let s = holds_append 200 p m row er h in
    record { rows_are = s.blocks_are; rest_kept = s.rest_kept; same_length = length-spliced m (p * 200) row (omega arith) }

-- ---- rows pulled down

pub pulled : (m : List ℕ) (from to count k : ℕ) → to ≤ from → (from + count) * 200 ≤ length m → k ≡ count * 200
    → Pulled m from to count (paste m (to * 200) (drop (from * 200) m) k)
pulled m from to count k l h e =
    let a : List ℕ = take (to * 200) m in
    let b : List ℕ = take k (drop (from * 200) m) in
    let la : length a ≡ to * 200 = length-take-le (to * 200) m (omega arith) in
    let lb : length b ≡ k = length-take-le k (drop (from * 200) m) (rw (length-drop (from * 200) m) (omega arith)) in
    let lab : length (a ++ b) ≡ (to + count) * 200 = simp length-append (omega arith) in
    let w : (to + count) * 200 ≤ length (a ++ b) = omega arith in
    let t : to * 200 + k ≡ (to + count) * 200 = omega arith in
    record {
      rows_are =
          blocks-front 200 (to + count) (a ++ b) (drop (to * 200 + k) m) w
          ∙ blocks-append 200 to count a b la
          ∙ rw (blocks_prefix 200 to m, e, blocks_prefix 200 count (drop (from * 200) m));
      rest_kept =
          kept_further (a ++ b ++ drop (to * 200 + k) m) m ((to + count) * 200) ((from + count) * 200) (omega arith)
          (drop_at (a ++ b) (drop (to * 200 + k) m) ((to + count) * 200) lab ∙ rw t);
      same_length = length-paste m (to * 200) (drop (from * 200) m) k (omega arith) (rw (length-drop (from * 200) m) (omega arith));
    }

-- rows that stand where they are to go
pub pulled_same : (m : List ℕ) (to count : ℕ) → Pulled m to to count m
pulled_same m to count = record { rows_are = blocks_split 200 to count m; rest_kept = refl; same_length = refl }

-- ---- rows moved up

raised_by : (m : List ℕ) (n by k : ℕ) → (n + by) * 200 ≤ length m → k ≡ n * 200 → Raised m n by (paste m (by * 200) m k)
raised_by m n by k h e =
    let a : List ℕ = take (by * 200) m in
    let b : List ℕ = take k m in
    let tail : List ℕ = drop (by * 200 + k) m in
    let la : length a ≡ by * 200 = length-take-le (by * 200) m (omega arith) in
    let lb : length b ≡ k = length-take-le k m (omega arith) in
    let t : by * 200 + k ≡ (n + by) * 200 = omega arith in
    record {
      rows_are =
          ap (λ (z : List ℕ). rows_of n (drop (by * 200) z)) (append_assoc a b tail)
          ∙ ap (rows_of n) (drop_at a (b ++ tail) (by * 200) la)
          ∙ blocks-front 200 n b tail (omega arith)
          ∙ rw e (blocks_prefix 200 n m);
      rest_kept = drop_at (a ++ b) tail ((n + by) * 200) (simp length-append (omega arith)) ∙ rw t;
      same_length = length-paste m (by * 200) m k (omega arith) (omega arith);
    }

pub raised : (m x : List ℕ) (n by : ℕ) → (n + by) * 200 ≤ length m → x ≡ copy_within m 0 (n * 200) (by * 200) → Raised m n by x
raised m x n by h r = rw r (raised_by m n by (n * 200 - 0) h (omega arith))

-- nothing moved yet
pub shifted_none : (xs : List ℕ) (e g : ℕ) → xs ≡ shifted xs e e g
unfolding shifted
shifted_none xs e g = rw (sub_self e) (sym (take-append-drop (e + g) xs))

-- the block at a, moved when those behind it have been
pub shifted_block : (xs : List ℕ) (a w e g : ℕ) → a + w ≤ e → e + g ≤ length xs
    → spliced (shifted xs (a + w) e g) (a + g) (take w (drop a (shifted xs (a + w) e g))) ≡ shifted xs a e g
unfolding spliced shifted
shifted_block xs a w e g l h =
    let front : List ℕ = take (a + w + g) xs in
    let rest : List ℕ = take (e - (a + w)) (drop (a + w) xs) ++ drop (e + g) xs in
    let v : List ℕ = take w (drop a xs) in
    let lf : length front ≡ a + w + g = length-take-le (a + w + g) xs (omega arith) in
    let lv : length v ≡ w = simp (length-take, length-drop) (omega arith) in
    let en : a + w + g ≡ a + (w + g) = omega arith in
    let ed : drop a front ≡ take (w + g) (drop a xs) = ap (λ (z : ℕ). drop a (take z xs)) en ∙ drop-take a (w + g) xs in
    let ev : take w (drop a (front ++ rest)) ≡ v =
    ap (take w) (drop-append-le a front rest (omega arith))
    ∙ take-append-le w (drop a front) rest (rw (length-drop a front) (omega arith))
    ∙ ap (take w) ed
    ∙ take-take w (w + g) (drop a xs) (omega arith) in
    let es : e - a ≡ w + (e - (a + w)) = omega arith in
    let em : take (e - a) (drop a xs) ≡ v ++ take (e - (a + w)) (drop (a + w) xs) =
    ap (λ (z : ℕ). take z (drop a xs)) es
    ∙ take-add w (e - (a + w)) (drop a xs)
    ∙ ap (λ (z : List ℕ). v ++ take (e - (a + w)) z) (drop-drop w a xs) in
    ap (λ (z : List ℕ). take (a + g) (front ++ rest) ++ (z ++ drop (a + g + length z) (front ++ rest))) ev
    ∙ ap (λ (z : List ℕ). z ++ (v ++ drop (a + g + length v) (front ++ rest)))
    (take-append-le (a + g) front rest (omega arith) ∙ take-take (a + g) (a + w + g) xs (omega arith))
    ∙ ap (λ (z : List ℕ). take (a + g) xs ++ (v ++ z)) (drop_at front rest (a + g + length v) (omega arith))
    ∙ ap (λ (z : List ℕ). take (a + g) xs ++ z) (sym (append_assoc v (take (e - (a + w)) (drop (a + w) xs)) (drop (e + g) xs)))
    ∙ ap (λ (z : List ℕ). take (a + g) xs ++ (z ++ drop (e + g) xs)) (sym em)

-- a block of w bytes pasted from elsewhere in the same bytes is cut out there and put in here
pasted_block : (x : List ℕ) (f g w : ℕ) → f + w ≤ length x → paste x g (drop f x) w ≡ spliced x g (take w (drop f x))
unfolding spliced
pasted_block x f g w h =
    let block : List ℕ = take w (drop f x) in
    let lb : length block ≡ w = simp (length-take, length-drop) (omega arith) in
    append_assoc (take g x) block (drop (g + w) x) ∙ ap (λ (z : ℕ). take g x ++ (block ++ drop (g + z) x)) (sym lb)

module _ (m : List ℕ) (n by : ℕ) (h : (n + by) * 200 ≤ length m) where
  -- the row at place i, moved when those behind it have been
  pub raised_step : (x : List ℕ) (i : ℕ) → i + 1 ≤ n → length x ≡ length m → x ≡ shifted m ((i + 1) * 200) (n * 200) (by * 200)
      → copy_within x (i * 200) (i * 200 + 200) ((i + by) * 200) ≡ shifted m (i * 200) (n * 200) (by * 200)
  raised_step x i l lx e =
      let ew : i * 200 + 200 - i * 200 ≡ 200 = omega arith in
      let ei : (i + 1) * 200 ≡ i * 200 + 200 = omega arith in
      let eb : (i + by) * 200 ≡ i * 200 + by * 200 = omega arith in
      pasted_block x (i * 200) ((i + by) * 200) (i * 200 + 200 - i * 200) (omega arith)
      ∙ rw (ew, e, ei, eb) (shifted_block m (i * 200) 200 (n * 200) (by * 200) (omega arith) (omega arith))

  pub raised_all : (x : List ℕ) → x ≡ shifted m 0 (n * 200) (by * 200) → length x ≡ length m → Raised m n by x
  unfolding shifted
  raised_all x e lx =
      let g : ℕ = by * 200 in
      let front : List ℕ = take (0 + g) m in
      let mid : List ℕ = take (n * 200) m in
      let tail : List ℕ = drop (n * 200 + g) m in
      let lf : length front ≡ g = length-take-le (0 + g) m (omega arith) ∙ omega arith in
      let lm : length mid ≡ n * 200 = length-take-le (n * 200) m (omega arith) in
      let en : (n + by) * 200 ≡ n * 200 + g = omega arith in
      let ez : n * 200 - 0 ≡ n * 200 = omega arith in
      let ex : x ≡ front ++ (mid ++ tail) = e ∙ ap (λ (z : ℕ). front ++ (take z m ++ tail)) ez in
      record {
        rows_are =
            ap (λ (z : List ℕ). rows_of n (drop g z)) ex
            ∙ ap (rows_of n) (drop_at front (mid ++ tail) g lf)
            ∙ blocks-front 200 n mid tail (omega arith)
            ∙ blocks_prefix 200 n m;
        rest_kept =
            rw en
            (ap (drop (n * 200 + g)) (ex ∙ sym (append_assoc front mid tail))
            ∙ drop_at (front ++ mid) tail (n * 200 + g) (simp length-append (omega arith)));
        same_length = lx;
      }

-- rows that stay where they are
pub raised_none : (m : List ℕ) (n : ℕ) → Raised m n 0 m
raised_none m n = record { rows_are = refl; rest_kept = refl; same_length = refl }
