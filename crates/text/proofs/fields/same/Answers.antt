-- `fields::same` meets its contract: the test of each pair, gathered; of other lengths, none are the same. Assumes nothing.
use mathlib.Core.Bool.{Bool, true, ◌&&◌}
use mathlib.Core.Path.{sym, ◌∙◌}
use Prim.Native.Nat.{ℕ}
use borrow.Author.Rules.{rules}
use borrow.Author.Tests.{tests, ne_eqb}
use lib.Dec.{eqb}
use Rattle.std.proofs.lemmas.Iterator.{YieldsList-from_slice, YieldsList-from_zip}
use Rattle.std.proofs.lemmas.Iterator.Consumers.{fold_from_yields_List}
use Rattle.text.proofs.SameLaws.{same-fold, same_lengths}
use Rattle.text.proofs.fields.same.Goals as goal

pub returns-then-a-b : goal.returns-then-a-b
returns-then-a-b c =
    let a = c.args.a.now in
    let b = c.args.b.now in
    fold_from_yields_List _ (λ (t : Bool) (p : ℕ × ℕ). t && eqb p.0 p.1) true _ c.fold.ensures.ran
    (YieldsList-from_zip (YieldsList-from_slice a cc) (YieldsList-from_slice b cc)) (λ t p r q k. search (rules, tests))
    ∙ same-fold true a b c.if-a-b.true

pub returns-else-a-b : goal.returns-else-a-b
returns-else-a-b c = rw (ne_eqb _ _ c.if-a-b.false) (sym (same_lengths c.args.a.now c.args.b.now c.if-a-b.false))
