use mathlib.Core.Path.{◌≡◌, refl, sym, ap, ◌∙◌}
use mathlib.Core.List.{List, [], ◌∷◌}
use Prim.Native.Nat.{ℕ, ◌<◌}
use native.Mathlib.Nat.{add-zero}
use native.Mathlib.Omega.{arith}
use lib.Bits.{bit_or}
use lib.ListN.{length, get_or, drop, get_or-map}
use Rattle.std.specs.Prelude.{map}
use Rattle.exclusionsets.specs.Exclusions.{exclusion_names, words_from, place_among, bits_named, read_onto, exclusions_of}
use Rattle.exclusionsets.specs.Words.{letters_of, bits_of, letters_number, word_number}
use Rattle.exclusionsets.specs.declared.exclusions.Word.{Word}
use Rattle.exclusionsets.proofs.ExclusionsLaws.{first_word, word_here, word_skip, words_none, number_here, number_other, name_behind, place_same, place_other, place_end, read_word, read_fails}
use Rattle.exclusionsets.proofs.exclusions.read_words.Goals as goal
use Rattle.exclusionsets.proofs.exclusions.read_words.Goals.{At-names}

-- in the inner loop: the field, the place and the set at the outer loop's turn, the word, and the words behind it

abbrev field : At-names → List ℕ
field q = q.args.s.now

abbrev outer_at : At-names → ℕ
outer_at q = q.words.at

abbrev outer_set : At-names → ℕ
outer_set q = q.words.set

abbrev word : At-names → List ℕ
word q = first_word (drop (outer_at q) (field q))

abbrev rest : At-names → List (List ℕ)
rest q = words_from [] (drop (length (word q)) (drop (outer_at q) (field q)))

at_word : (q : At-names) → exclusions_of (field q) ≡ read_onto (outer_set q) (word q ∷ rest q)
at_word q =
    q.words.invariant
    ∙ ap (read_onto (outer_set q)) (word_here (field q) (outer_at q) q.if-s-at.false (sym q.is_separator.ensures ∙ q.if-is_separator.false))

number : (q : At-names) → q.word_number-number.result ≡ word_number (field q) (outer_at q)
number q = q.word_number-number.ensures

bytes : (q : At-names) (k : ℕ) → get_or (field q) k 0 < 256
bytes q k = omega (arith, q.shared_slice_known-in-words-1.given k)

-- the word at a place of the table: its letters, and what it puts into the set

abbrev no_word : Word
no_word = record { letters = []; bits = 0 }

module _ (table : List Word) (n : ℕ) (w : Word) (e : w ≡ get_or table n no_word) where
  letters_at : map letters_of table ≡ exclusion_names → w.letters ≡ get_or exclusion_names n []
  letters_at f = ap letters_of e ∙ sym (get_or-map letters_of table n no_word) ∙ ap (λ (x : List (List ℕ)). get_or x n []) f

  bits_at : ((k : ℕ) → k < 8 → get_or (map bits_of table) k 0 ≡ bits_named k) → n < 8 → w.bits ≡ bits_named n
  bits_at f h = ap bits_of e ∙ sym (get_or-map bits_of table n no_word) ∙ f n h

pub words-init : goal.words-init
unfolding exclusions_of
words-init c = refl

pub words-preserved-then-is_separator : goal.words-preserved-then-is_separator
words-preserved-then-is_separator c =
    let l = c.words in
    l.invariant
    ∙ ap (read_onto l.set) (word_skip c.args.s.now l.at 0 c.if-s-at.false (sym c.is_separator.ensures ∙ c.if-is_separator.true))

pub words-preserved : goal.words-preserved
words-preserved c =
    let q = (goal.at.words-preserved c).At-names in
    let l = c.names in
    let w = c.in-Some in
    let k = w.ensures.lookup.3 in
    let table = c.words-table in
    let h : l.n < 8 = omega (arith, k.0, ap length table.ensures.letters) in
    let e = letters_at table.result.now l.n w.word.now (k.1 no_word) table.ensures.letters in
    let b = bits_at table.result.now l.n w.word.now (k.1 no_word) table.ensures.bits h in
    let m : letters_number (get_or exclusion_names l.n []) ≡ word_number (field q) (outer_at q) =
    ap letters_number (sym e) ∙ sym c.number_of.ensures ∙ c.if-number_of-number.true ∙ number q in
    let t = number_here (field q) (outer_at q) l.n h (bytes q) m in
    let p = place_same (word q) l.n h t in
    let n : place_among (word q) exclusion_names ≡ l.n = omega (arith, l.invariant.3, p) in
    rw (l.invariant.0, l.invariant.1, b)
    (at_word q ∙ read_word (outer_set q) (word q) (rest q) l.n n h
    ∙ ap (read_onto (bit_or (outer_set q) (bits_named l.n))) (name_behind (field q) (outer_at q) l.n h t))

pub names-preserved : goal.names-preserved
names-preserved c =
    let q = (goal.at.names-preserved c).At-names in
    let l = c.names in
    let w = c.in-Some in
    let k = w.ensures.lookup.3 in
    let table = c.words-table in
    let h : l.n < 8 = omega (arith, k.0, ap length table.ensures.letters) in
    let e = letters_at table.result.now l.n w.word.now (k.1 no_word) table.ensures.letters in
    let t = number_other (field q) (outer_at q) l.n h (λ m. c.if-number_of-number.false (c.number_of.ensures ∙ ap letters_number e ∙ m ∙ sym (number q))) in
    let p = place_other (word q) l.n h t in
    (l.invariant.0, l.invariant.1, omega (arith, h), omega (arith, p, l.invariant.3))

pub returns-then-s-at : goal.returns-then-s-at
unfolding read_onto
returns-then-s-at c =
    let l = c.words in
    sym (l.invariant ∙ ap (read_onto l.set) (words_none c.args.s.now l.at c.if-s-at.true))

pub returns-in_default : goal.returns-in_default
returns-in_default c =
    let q = (goal.at.returns-in_default c).At-names in
    let l = c.names in
    let e : l.n ≡ 8 = omega (arith, l.invariant.2, c.in_default.ensures.lookup.3, ap length c.words-table.ensures.letters) in
    let n : place_among (word q) exclusion_names ≡ l.n = l.invariant.3 ∙ rw (place_end (word q) l.n e) (add-zero l.n) in
    sym (at_word q ∙ read_fails (outer_set q) (word q) (rest q) l.n n e)
