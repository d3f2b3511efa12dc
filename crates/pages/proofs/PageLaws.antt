-- Laws of lines cut into pages: how many there are, how many lines of every kind they take, and the same pages printed line by line.
-- Assumes nothing.
use Prim.Native.Nat.{ℕ, zero, suc, ◌+◌, ◌*◌, ◌≤◌}
use mathlib.Core.Path.{◌≡◌, refl, ap, ◌∙◌}
use mathlib.Core.List.{List, [], ◌∷◌, ◌++◌}
use native.Mathlib.Nat.{suc-mul}
use native.Mathlib.Numerals.{add-one}
use native.Mathlib.Omega.{arith}
use lib.ListN.{length, take, drop, length-append, length-take, length-drop}
use borrow.Author.Tests.{eq-eqb, ne_eqb}
use Rattle.pages.specs.Forms.{foot}
use Rattle.pages.specs.Pages.{first_pages, page_count, pages_of, printed_from}
use Rattle.pages.specs.Steps.{going_on}

pub count_pages : (n : ℕ) (lines : List (List ℕ)) → length (first_pages n lines) ≡ n
unfolding first_pages
count_pages zero lines = refl
count_pages (suc n) lines = ap suc (count_pages n (drop 58 lines))

-- each line, and a heading and a foot for each page
pages_length : (n number : ℕ) (lines : List (List ℕ)) → length lines ≤ n * 58 → length (printed_from number (first_pages n lines)) ≡ length lines + 2 * n
unfolding first_pages printed_from
pages_length zero number lines h = omega arith
pages_length (suc n) number lines h =
    let a = take 58 lines in
    let b = drop 58 lines in
    let ih = pages_length n (suc number) b (rw (length-drop 58 lines) (omega (arith, suc-mul n 58))) in
    let f = foot (length a) ∷ [] in
    let p = printed_from (suc number) (first_pages n b) in
    let e : length ((a ++ f) ++ p) ≡ length a + 1 + (length b + 2 * n) =
    length-append (a ++ f) p ∙ ap (λ (z : ℕ). z + length p) (length-append a f) ∙ ap (λ (z : ℕ). length a + 1 + z) ih in
    omega (arith, e, length-take 58 lines, length-drop 58 lines)

pub printed-length : (number : ℕ) (lines : List (List ℕ)) → length (printed_from number (pages_of lines)) ≡ length lines + 2 * page_count (length lines)
printed-length number lines = pages_length (page_count (length lines)) number lines (omega arith)

-- ---- line by line

-- what is still to be printed of lines: from a new page on, and from a page that has rows already and room for r + 1 more
pub record Turned (lines : List (List ℕ)) : Type 0 where
  pub fresh : (number : ℕ) → going_on number 0 lines ≡ printed_from number (pages_of lines)
  pub begun : (number on r : ℕ) → 1 ≤ on → on + suc r ≡ 58
      → going_on number on lines
      ≡ (take (suc r) lines ++ foot (on + length (take (suc r) lines)) ∷ []) ++ printed_from (number + 1) (pages_of (drop (suc r) lines))

module _ (line : List ℕ) (lines : List (List ℕ)) (t : Turned lines) where
  begun_more : (number on r : ℕ) → 1 ≤ on → on + suc r ≡ 58
      → going_on number on (line ∷ lines)
      ≡ (line ∷ take r lines ++ foot (on + suc (length (take r lines))) ∷ []) ++ printed_from (number + 1) (pages_of (drop r lines))
  unfolding going_on
  begun_more number on zero h e =
      let z : on + 1 ≡ 58 = omega arith in
      rw (ne_eqb on 0 (λ y. omega arith), eq-eqb (on + 1) 58 z) (rw (t.fresh (number + 1)))
  begun_more number on (suc r) h e =
      let z : on + suc (length (take (suc r) lines)) ≡ on + 1 + length (take (suc r) lines) = omega arith in
      rw (ne_eqb on 0 (λ y. omega arith), ne_eqb (on + 1) 58 (λ y. omega arith), z)
      (rw (t.begun number (on + 1) r (omega arith) (omega arith)))

  fresh_more : (number : ℕ) → going_on number 0 (line ∷ lines) ≡ printed_from number (pages_of (line ∷ lines))
  unfolding going_on printed_from first_pages
  fresh_more number =
      let c : page_count (suc (length lines)) ≡ suc (page_count (length (drop 57 lines))) = omega (arith, length-drop 57 lines) in
      let z : 1 + length (take 57 lines) ≡ suc (length (take 57 lines)) = omega arith in
      rw (c, ← z, ← add-one number) (rw (t.begun number 1 56 (omega arith) refl))

pub turned : (lines : List (List ℕ)) → Turned lines
unfolding going_on printed_from first_pages
turned [] =
    record {
      fresh = λ number. refl;
      begun = λ number on r h e. let z : on + 0 ≡ on = omega arith in rw (ne_eqb on 0 (λ y. omega arith), z);
    }
turned (line ∷ lines) =
    record { fresh = fresh_more line lines (turned lines); begun = begun_more line lines (turned lines) }
