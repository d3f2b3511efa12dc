use mathlib.Core.Path.{◌≡◌, refl, sym, ap, ◌∙◌}
use mathlib.Core.Bool.{cond}
use mathlib.Core.List.{List, [], ◌++◌, append_assoc, append-nil}
use Prim.Native.Nat.{ℕ, ◌+◌, ◌*◌, ◌%◌}
use native.Mathlib.Omega.{arith}
use borrow.Author.Rules.{rules}
use lib.Dec.{eqb}
use lib.ListN.{length, get_or, get_or-map, take}
use lib.Seq.{take_all}
use Rattle.text.specs.Blocks.{spliced}
use Rattle.text.specs.Fields.{spaces}
use Rattle.exclusionsets.specs.Exclusions.{exclusion_names, exclusion_columns}
use Rattle.exclusionsets.specs.Words.{letters_of}
use Rattle.text.proofs.SplicedLaws.{take_through}
use Rattle.exclusionsets.proofs.ExclusionsLaws.{shown_step, shown_end, columns_none}
use Rattle.exclusionsets.proofs.WordsWrittenLaws.{three_bytes}
use Rattle.exclusionsets.proofs.exclusions.exclusion_columns.Goals as goal

pub returns-then-set-eq0 : goal.returns-then-set-eq0
returns-then-set-eq0 c = columns_none _ c.if-set-eq0.true

pub loop-n-init : goal.loop-n-init
unfolding exclusion_columns
loop-n-init c = (search rules, refl)

pub copy_in-requires : goal.copy_in-requires
copy_in-requires c = let k : length c.name_columns-name.result ≡ 3 = search rules in omega arith

pub loop-n-preserved : goal.loop-n-preserved
loop-n-preserved c =
    let l = c.loop-n in
    let k = c.name_columns-name in
    let w : length k.result ≡ 3 = search rules in
    let r : k.result ≡ cond (eqb (l.left % 2) 1) (get_or exclusion_names l.n []) (spaces 3) = k.ensures ∙ ap (λ (x : List ℕ). cond (eqb (l.left % 2) 1) x (spaces 3)) (sym (get_or-map letters_of c.words-word-items.result.now l.n record { letters = []; bits = 0 }) ∙ ap (λ (x : List (List ℕ)). get_or x l.n []) c.words-word-items.ensures.letters) in
    let e : c.copy_in.new.dst ≡ spliced l.out (l.n * 3) k.result = c.copy_in.ensures ∙ ap (spliced l.out (l.n * 3)) (three_bytes k.result w) in
    let f : take ((l.n + 1) * 3) c.copy_in.new.dst ≡ take (l.n * 3) l.out ++ k.result =
    ap (take ((l.n + 1) * 3)) e ∙ take_through l.out (l.n * 3) k.result ((l.n + 1) * 3) (omega arith) (omega arith) in (
      search rules,
      l.invariant.1 ∙ rw (shown_step l.left l.n (search rules), ← r, f, append_assoc),
    )

pub returns : goal.returns
returns c =
    let l = c.loop-n in
    let n : l.n ≡ 8 = omega arith in
    sym (l.invariant.1 ∙ rw (shown_end l.left l.n n, take_all (l.n * 3) l.out (omega arith)) (append-nil l.out))
