-- `exclusions::put_word` meets its contract: each of the three answers leaves what is to stand behind the bytes. Assumes nothing.
use mathlib.Core.Path.{◌≡◌, ap}
use mathlib.Core.List.{List, [], ◌∷◌}
use Prim.Native.Nat.{ℕ}
use borrow.Author.Tests.{not-true, not-false}
use borrow.Author.Rules.{rules}
use lib.ListN.{length, get_or}
use Rattle.text.specs.Characters.{comma}
use Rattle.exclusionsets.proofs.WordsWrittenLaws.{word_off, word_first, word_next, three_bytes}
use Rattle.exclusionsets.proofs.exclusions.put_word.Goals as goal

pub returns-then-not-on : goal.returns-then-not-on
returns-then-not-on c =
    let a = c.args in
    word_off a.out.now a.at a.on a.name (not-true _ c.if-not-on.true-raw)

pub returns-then-at-eq0 : goal.returns-then-at-eq0
returns-then-at-eq0 c =
    let a = c.args in
    let l : length a.name ≡ 3 = search rules in
    word_first a.out.now a.at a.on a.name c.copy_in.new.dst (not-false _ c.if-not-on.false-raw) c.if-at-eq0.true l c.copy_in.ensures

pub returns : goal.returns
returns c =
    let a = c.args in
    let l : length a.name ≡ 3 = search rules in
    word_next a.out.now a.at a.on a.name c.copy_in-2.new.dst (comma ∷ get_or a.name 0 0 ∷ get_or a.name 1 0 ∷ get_or a.name 2 0 ∷ []) (not-false _ c.if-not-on.false-raw) c.if-at-eq0.false l (ap (λ (x : List ℕ). comma ∷ x) (three_bytes a.name l)) c.copy_in-2.ensures
