-- `fields::all_are` meets its contract: the test of each byte, gathered. Assumes nothing.
use mathlib.Core.Bool.{true, ◌&&◌}
use mathlib.Core.Path.{◌∙◌}
use borrow.Author.Rules.{rules}
use borrow.Author.Tests.{tests}
use Rattle.std.proofs.lemmas.Iterator.{YieldsList-from_slice}
use Rattle.std.proofs.lemmas.Iterator.Consumers.{fold_from_yields_List}
use Rattle.text.specs.Characters.{is_byte}
use Rattle.text.proofs.FieldsLaws.{every-fold}
use Rattle.text.proofs.fields.all_are.Goals as goal

pub returns : goal.returns
returns c =
    let s = c.args.s.now in
    let f = is_byte c.args.b in
    fold_from_yields_List _ (λ ok x. ok && f x) true _ c.fold.ensures.ran (YieldsList-from_slice s cc) (λ ok x r q k. search (rules, tests))
    ∙ every-fold f true s
