-- `compares_runs`: the word is compared with each part between the bytes that are no letters. Assumes nothing.
use Rattle.std.proofs.Common.{not, rules, ◌∙◌}
use borrow.Author.Tests.{tests}
use Rattle.std.proofs.lemmas.Iterator.Splits.{YieldsList-from_slice_split}
use Rattle.std.proofs.lemmas.Iterator.Search.{any_from_yields_List}
use Rattle.text.specs.Characters.{is_letter}
use Rattle.text.specs.Fields.{same_bytes}
use Rattle.contactrecord.proofs.WordingLaws.{has_run-split}
use Rattle.contactrecord.proofs.wording.compares_runs.Goals as goal

pub returns : goal.returns
returns c =
    let s = c.args.s.now in
    let word = c.args.word.now in
    any_from_yields_List (same_bytes word) _ _ _ c.any.ensures.ran
    (YieldsList-from_slice_split _ (λ b. not (is_letter b)) s c.split.ensures.rest c.split.ensures.done c.split.ensures.closure (λ x b q k. search (rules, tests)))
    (λ x b q k. search (rules, tests))
    ∙ has_run-split word s c.requires
