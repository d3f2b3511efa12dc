use mathlib.Core.Path.{refl, sym, ap, ◌∙◌}
use mathlib.Core.List.{List, []}
use Prim.Native.Nat.{ℕ, ◌+◌, ◌/◌, ◌%◌, ◌≤◌}
use native.Mathlib.Omega.{arith}
use borrow.Author.Rules.{rules}
use lib.Dec.{eqb}
use lib.ListN.{length, get_or, get_or-map, drop}
use Rattle.text.specs.Fields.{spaces}
use Rattle.exclusionsets.specs.Exclusions.{exclusion_names}
use Rattle.exclusionsets.specs.Words.{letters_of}
use Rattle.exclusionsets.proofs.WordsWrittenLaws.{name_three}
use Rattle.exclusionsets.specs.ExclusionText.{names_in}
use Rattle.exclusionsets.proofs.WordsWrittenLaws.{IsPut, names_step, word_end, word_wide, word_kept, word_turn, all_words, field_whole}
use Rattle.exclusionsets.proofs.exclusions.exclusion_field.Goals as goal

pub loop-word-init : goal.loop-word-init
loop-word-init c = (search rules, search rules, refl, all_words _)

pub loop-word-preserved : goal.loop-word-preserved
loop-word-preserved c =
    let l = c.loop-word in
    let w = c.put_word-at in
    let out = l.out in
    let name = get_or exclusion_names l.word-index [] in
    let on = eqb (l.left % 2) 1 in
    let k = name_three l.word-index (search rules) in
    let e = sym (get_or-map letters_of c.words-word-items.result.now l.word-index record { letters = []; bits = 0 }) ∙ ap (λ (x : List (List ℕ)). get_or x l.word-index []) c.words-word-items.ensures.letters in
    let room : l.at + 4 ≤ length out = omega arith in
    let p : IsPut out l.at on name w.new.out w.result = rw (← e) w.ensures in
    let n = word_end out w.new.out l.at w.result on name k room p in
    let t = word_turn out w.new.out l.at w.result on name k room p (names_in (l.left / 2) (drop (l.word-index + 1) exclusion_names)) in (
      omega arith,
      word_wide out w.new.out l.at w.result on name k room p ∙ l.invariant.1,
      word_kept out w.new.out l.at w.result on name k room p (spaces 40) l.invariant.2,
      t ∙ (rw (names_step l.left l.word-index (search rules)) at l.invariant.3),
    )

pub returns : goal.returns
returns c =
    let l = c.loop-word in
    field_whole _ l.left l.at l.word-index l.out (omega arith) (omega arith) l.invariant.1 l.invariant.2 l.invariant.3
