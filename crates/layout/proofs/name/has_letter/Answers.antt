-- `name::has_letter` meets its contract: the test of each byte until one passes. Assumes nothing.
use mathlib.Core.Path.{◌∙◌}
use borrow.Author.Rules.{rules}
use borrow.Author.Tests.{tests}
use Rattle.std.proofs.lemmas.Iterator.{YieldsList-from_slice}
use Rattle.std.proofs.lemmas.Iterator.Search.{any_from_yields_List}
use Rattle.text.specs.Characters.{is_letter}
use Rattle.layout.specs.Name.{has_letter}
use Rattle.text.proofs.FieldsLaws.{any-at_least_one}
use Rattle.layout.proofs.name.has_letter.Goals as goal

pub returns : goal.returns
unfolding has_letter
returns c =
    let s = c.args.s.now in
    any_from_yields_List is_letter _ _ _ c.any.ensures.ran (YieldsList-from_slice s cc) (λ b r q k. search (rules, tests))
    ∙ any-at_least_one is_letter s
