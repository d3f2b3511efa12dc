-- Of every call that is carried out: the pages are the lines of the live rows cut by 58, so joined they are these lines, and what is
-- read off the buffer is what was printed; the rows are no more than the limit, so that each page number fits its digits. Assumes nothing.
use Prim.Native.Nat.{ℕ, zero, suc, ◌+◌, ◌*◌, ◌^◌, ◌≤◌, ◌<◌}
use mathlib.Core.Path.{◌≡◌, refl, sym, ap, ◌∙◌}
use mathlib.Core.Bool.{Bool, true, false, cond}
use mathlib.Core.List.{List, [], ◌∷◌, ◌++◌}
use native.Mathlib.Nat.{suc-mul, not-suc-le-zero, le_of_suc-le-suc}
use native.Mathlib.Omega.{arith}
use lib.ListN.{length, take, drop, get_or, length-append, length-take, length-drop, take-append-drop}
use lib.Seq.{drop-drop, get_or-append-add, length-take-le}
use Rattle.answers.specs.Answer.{refuse_if}
use Rattle.answers.proofs.AnswerLaws.{done_is}
use Rattle.text.specs.Fields.{columns, number}
use Rattle.text.specs.Blocks.{blocks, joined, over}
use Rattle.text.proofs.BlocksLaws.{blocks_get, length-blocks}
use Rattle.text.proofs.NumberLaws.{number_digits}
use Rattle.text.proofs.WidthLaws.{All, all_append, all_take, all_drop, blocks_wide, blocks-joined}
use Rattle.casemaster.specs.Row.{is_live}
use Rattle.casemaster.specs.Master.{rows_of}
use Rattle.casemaster.specs.Refusals.{refusal3, refusal4, master_refusal}
use Rattle.casemaster.proofs.RefusalsLaws.{master_rows, master_limit}
use Rattle.pages.specs.Forms.{page_digits, case_line, heading, foot}
use Rattle.pages.specs.Pages.{case_lines, first_pages, page_count, pages_of, page, printed_from, printed, pages_refusal, PagesOutcome, pages_run, pages_outcome}
use Rattle.pages.specs.Theorem.{all_lines, ArePages, EveryPrinting}
use Rattle.pages.proofs.LineColumns.{line-columns, heading-columns, foot-columns}
use Rattle.pages.proofs.PageLaws.{count_pages, printed-length}
use Rattle.pages.proofs.CaseLinesLaws.{no_lines, lines_more}

-- ---- lines cut into pages

page_lines : (n : ℕ) (lines : List (List ℕ)) (i : ℕ) → i < n → get_or (first_pages n lines) i [] ≡ take 58 (drop (i * 58) lines)
unfolding first_pages
page_lines zero lines i h = absurd (not-suc-le-zero h)
page_lines (suc n) lines zero h = refl
page_lines (suc n) lines (suc i) h =
    let e : 58 + i * 58 ≡ suc i * 58 = omega (arith, suc-mul i 58) in
    page_lines n (drop 58 lines) i (le_of_suc-le-suc h)
    ∙ ap (take 58) (drop-drop (i * 58) 58 lines ∙ ap (λ (z : ℕ). drop z lines) e)

pages_joined : (n : ℕ) (lines : List (List ℕ)) → length lines ≤ n * 58 → all_lines (first_pages n lines) ≡ lines
unfolding first_pages all_lines
pages_joined zero [] h = refl
pages_joined zero (line ∷ lines) h = absurd (omega arith)
pages_joined (suc n) lines h =
    rw (pages_joined n (drop 58 lines) (rw (length-drop 58 lines) (omega (arith, suc-mul n 58)))) (take-append-drop 58 lines)

-- the heading of the page behind i full ones
heading_at : (n : ℕ) (lines : List (List ℕ)) (number i : ℕ) → i < n → i * 58 ≤ length lines
    → get_or (printed_from number (first_pages n lines)) (i * 60) [] ≡ heading (number + i)
unfolding first_pages printed_from
heading_at zero lines number i h l = absurd (not-suc-le-zero h)
heading_at (suc n) lines number zero h l = let z : number + 0 ≡ number = omega arith in rw z
heading_at (suc n) lines number (suc i) h l =
    let first = page number (take 58 lines) in
    let rest = printed_from (suc number) (first_pages n (drop 58 lines)) in
    let w : length first ≡ 60 =
    ap suc (length-append (take 58 lines) (foot (length (take 58 lines)) ∷ []))
    ∙ omega (arith, length-take-le 58 lines (omega (arith, suc-mul i 58))) in
    let e : suc i * 60 ≡ length first + i * 60 = omega (arith, w, suc-mul i 60) in
    let m : suc number + i ≡ number + suc i = omega arith in
    rw e
    (get_or-append-add first rest (i * 60) []
    ∙ heading_at n (drop 58 lines) (suc number) i (le_of_suc-le-suc h) (rw (length-drop 58 lines) (omega (arith, suc-mul i 58)))
    ∙ ap heading m)

-- ---- lines of 132 columns

abbrev IsWide : List ℕ → Type 0
IsWide line = length line ≡ 132

lines_wide : (rows : List (List ℕ)) → All (λ (row : List ℕ). length row ≡ 200) rows → All IsWide (case_lines rows)
lines_wide [] a = rw no_lines tt
lines_wide (row ∷ rows) a = rw (lines_more row rows) (go (is_live row) (lines_wide rows a.1))
  where
    go : (b : Bool) → All IsWide (case_lines rows) → All IsWide (cond b (case_line row ∷ []) [] ++ case_lines rows)
    go true h = ((line-columns row a.0).wide, h)
    go false h = h

pages_wide : (n number : ℕ) (lines : List (List ℕ)) → All IsWide lines → All IsWide (printed_from number (first_pages n lines))
unfolding first_pages printed_from
pages_wide zero number lines a = tt
pages_wide (suc n) number lines a = (
  (heading-columns number).wide,
  all_append IsWide (take 58 lines ++ foot (length (take 58 lines)) ∷ []) (printed_from (suc number) (first_pages n (drop 58 lines)))
      (all_append IsWide (take 58 lines) (foot (length (take 58 lines)) ∷ []) (all_take IsWide 58 lines a) ((foot-columns (length (take 58 lines))).wide, tt))
      (pages_wide n (suc number) (drop 58 lines) (all_drop IsWide 58 lines a)),
)

-- ---- the number of a page

heading-number : (n : ℕ) → n < 10 ^ page_digits → number (columns 7 (6 + page_digits) (heading n)) ≡ n
heading-number n h = ap number (heading-columns n).digits ∙ number_digits page_digits n h

lines_few : (rows : List (List ℕ)) → length (case_lines rows) ≤ length rows
lines_few [] = rw no_lines (omega arith)
lines_few (row ∷ rows) = rw (lines_more row rows) (go (is_live row) (lines_few rows))
  where
    go : (b : Bool) → length (case_lines rows) ≤ length rows → length (cond b (case_line row ∷ []) [] ++ case_lines rows) ≤ suc (length rows)
    go true h = omega arith
    go false h = omega arith

-- ---- a call that is carried out

module _ (limit : ℕ) (few : page_count limit < 10 ^ page_digits) (master : List ℕ) (rows : ℕ) (out : List ℕ) (e : master_refusal limit master rows 0 ≡ 0) where
  abbrev lines : List (List ℕ)
  lines = case_lines (rows_of rows master)

  abbrev count : ℕ
  count = page_count (length lines)

  abbrev left : List ℕ
  left = over (joined (printed (rows_of rows master))) out

  -- the buffer has them
  read_back : blocks 132 (length (printed (rows_of rows master))) left ≡ printed (rows_of rows master)
  unfolding over
  read_back =
      blocks-joined 132 (printed (rows_of rows master)) (drop (length (joined (printed (rows_of rows master)))) out)
      (pages_wide count 1 lines (lines_wide (rows_of rows master) (blocks_wide 200 rows master (omega (arith, master_rows limit master rows e)))))

  numbers : (i : ℕ) → i < count → number (columns 7 (6 + page_digits) (take 132 (drop (i * 60 * 132) left))) ≡ i + 1
  numbers i h =
      let k : i * 60 < length (printed (rows_of rows master)) = omega (arith, printed-length 1 lines) in
      let b = blocks_get 132 (length (printed (rows_of rows master))) left (i * 60) k in
      let a : take 132 (drop (i * 60 * 132) left) ≡ heading (1 + i) =
      sym b ∙ ap (λ (z : List (List ℕ)). get_or z (i * 60) []) read_back ∙ heading_at count lines 1 i h (omega arith) in
      let z : 1 + i ≡ i + 1 = omega arith in
      let f : i + 1 < 10 ^ page_digits =
      omega (arith, few, master_limit limit master rows e, lines_few (rows_of rows master), length-blocks 200 rows master) in
      rw (a, z) (heading-number (i + 1) f)

  are_pages : ArePages (rows_of rows master) (length (pages_of lines)) left
  are_pages =
      let n : length (pages_of lines) ≡ count = count_pages count lines in
      rw n
      (record {
        parts = pages_of lines;
        count = n;
        standing = read_back;
        once = pages_joined count lines (omega arith);
        full = λ i h. rw (page_lines count lines i (omega arith), length-take, length-drop) (omega arith);
        last = λ i h. rw (page_lines count lines i (omega arith), length-take, length-drop) (omega arith, omega arith);
        numbered = numbers;
        none_live = λ z. rw z;
      })

not_refused : (limit : ℕ) (master : List ℕ) (rows : ℕ) (out : List ℕ) → pages_refusal limit master rows out ≡ 0 → master_refusal limit master rows 0 ≡ 0
unfolding pages_refusal master_refusal
not_refused limit master rows out e = go (refusal3 limit master rows) (refusal4 master rows) _ e
  where
    go : (a b : Bool) (behind : ℕ) → refuse_if a 3 (refuse_if b 4 behind) ≡ 0 → refuse_if a 3 (refuse_if b 4 0) ≡ 0
    go true b behind e = e
    go false true behind e = e
    go false false behind e = refl

pub every_printing : EveryPrinting
unfolding pages_outcome
every_printing limit master rows out o n few e d =
    let k = done_is (pages_refusal limit master rows out) out (pages_run master rows out) n (ap (λ (x : PagesOutcome). x.answer) (sym e) ∙ d) in
    let p : o.buffers ≡ over (joined (printed (rows_of rows master))) out = ap (λ (x : PagesOutcome). x.buffers) e ∙ k.2 in
    rw (p, ← k.1) (are_pages limit few master rows out (not_refused limit master rows out k.0))
