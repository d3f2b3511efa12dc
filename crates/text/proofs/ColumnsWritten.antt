-- Laws of a record that is written field by field from its first column on, each field into the columns behind the one before: it is
-- the fields one behind the other. Whatever the record, and the width of its fields. Assumes nothing.
use Prim.Native.Nat.{ℕ, ◌+◌, ◌-◌, ◌≤◌}
use mathlib.Core.Path.{◌≡◌, refl, sym, ap, ◌∙◌}
use mathlib.Core.List.{List, [], ◌++◌, append_assoc, append-nil}
use mathlib.Core.Bool.{Bool, true, ◌&&◌}
use native.Mathlib.Omega.{arith}
use borrow.Author.Tests.{eqb-true, leb-true}
use lib.Dec.{eqb, leb}
use lib.ListN.{length, take, drop, length-append, length-take, length-drop, take-append-drop, drop_of_length-le}
use lib.Seq.{take_at, drop_at, drop-drop}
use Rattle.text.specs.Fields.{columns, placed, digit_field}
use Rattle.text.proofs.FieldsLaws.{and_left, and_right, length-columns}
use Rattle.text.proofs.NumberLaws.{length_digits}

-- columns 1 to n of t are x, and those behind them are as in s
pub record Written (n : ℕ) (x s t : List ℕ) : Type 0 where
  pub wide : length x ≡ n
  pub inside : n ≤ length s
  pub is : t ≡ x ++ drop n s

-- columns first to last stand behind n columns and inside w, and columns a to z of l bytes are as wide
abbrev pub is_next : ℕ → ℕ → ℕ → ℕ → ℕ → ℕ → ℕ → Bool
is_next w n first last l a z = eqb first (n + 1) && (eqb (last + a) (n + z + 1) && (leb last w && (leb 1 a && (leb a z && leb z l))))

pub written_none : (s : List ℕ) → Written 0 [] s s
written_none s = record { wide = refl; inside = omega arith; is = refl }

module _ {n : ℕ} {x s t : List ℕ} (w : Written n x s t) where
  -- what stands behind
  behind : (m : ℕ) → n ≤ m → drop m t ≡ drop m s
  behind m l =
      let p : n + (m - n) ≡ m = omega arith in
      rw (w.is, ← p) (sym (drop-drop (m - n) n (x ++ drop n s)) ∙ ap (drop (m - n)) (drop_at x (drop n s) n w.wide) ∙ drop-drop (m - n) n s)

  -- the next field
  pub written-field : {u : List ℕ} (first last : ℕ) (f : List ℕ) → u ≡ placed first last f t
      → first ≡ n + 1 → last ≡ n + length f → last ≤ length s → Written last (x ++ f) s u
  written-field first last f e a z h =
      let k : first - 1 ≡ n = omega arith in
      let g : take n t ≡ x = ap (take n) w.is ∙ take_at x (drop n s) n w.wide in
      record {
        wide = length-append x f ∙ omega (arith, w.wide);
        inside = h;
        is = e ∙ rw (k, g, behind last (omega arith));
      }

  -- it is columns of other bytes
  pub written-columns : {u : List ℕ} (first last l a z : ℕ) (r : List ℕ) → u ≡ placed first last (columns a z r) t
      → length r ≡ l → is_next (length s) n first last l a z ≡ true → Written last (x ++ columns a z r) s u
  written-columns first last l a z r e lr t1 =
      let t2 = and_right (eqb first (n + 1)) _ t1 in
      let t3 = and_right (eqb (last + a) (n + z + 1)) _ t2 in
      let t4 = and_right (leb last (length s)) _ t3 in
      let t5 = and_right (leb 1 a) _ t4 in
      let h1 = eqb-true first (n + 1) (and_left (eqb first (n + 1)) _ t1) in
      let h2 = eqb-true (last + a) (n + z + 1) (and_left (eqb (last + a) (n + z + 1)) _ t2) in
      let h3 = leb-true last (length s) (and_left (leb last (length s)) _ t3) in
      let h4 = leb-true 1 a (and_left (leb 1 a) _ t4) in
      let h5 = leb-true a z (and_left (leb a z) _ t5) in
      let h6 = leb-true z l (and_right (leb a z) _ t5) in
      let lc : length (columns a z r) ≡ z + 1 - a = length-columns a z r (record { low = h4; ordered = omega arith; high = omega arith }) in
      written-field first last (columns a z r) e h1 (omega arith) h3

  -- it is a number's digits
  pub written_digits : {u : List ℕ} (first last width m : ℕ) → u ≡ placed first last (digit_field width m) t
      → first ≡ n + 1 → last ≡ n + width → last ≤ length s → Written last (x ++ digit_field width m) s u
  written_digits first last width m e a z h = written-field first last (digit_field width m) e a (omega (arith, length_digits width m)) h

  -- columns that stay
  pub written_kept : (first last : ℕ) → first ≡ n + 1 → n ≤ last → last ≤ length s → Written last (x ++ columns first last s) s t
  written_kept first last a o h =
      let k : first - 1 ≡ n = omega arith in
      let m : last + 1 - first ≡ last - n = omega arith in
      let p : n + (last - n) ≡ last = omega arith in
      let d : drop (last - n) (drop n s) ≡ drop last s = drop-drop (last - n) n s ∙ ap (λ (i : ℕ). drop i s) p in
      record {
        wide = rw (k, m) (simp (length-append, length-take, length-drop) (omega (arith, w.wide)));
        inside = h;
        is =
            w.is
            ∙ rw (k, m, ← d)
            (ap (λ (l : List ℕ). x ++ l) (sym (take-append-drop (last - n) (drop n s)))
            ∙ sym (append_assoc x (take (last - n) (drop n s)) (drop (last - n) (drop n s))));
      }

  -- all columns written
  pub written_all : n ≡ length s → t ≡ x
  written_all e = w.is ∙ ap (λ (l : List ℕ). x ++ l) (drop_of_length-le s {i = n} (omega arith)) ∙ append-nil x
