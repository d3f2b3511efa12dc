-- `holds_three`: each three bytes side by side are looked at. Assumes nothing.
use Rattle.std.proofs.Common.{◌||◌, false, rules, ◌∙◌, lit<}
use borrow.Author.Tests.{tests}
use Rattle.std.proofs.lemmas.Iterator.Consumers.{fold_from_yields_List}
use Rattle.contactrecord.proofs.WordingLaws.{are_three, windows_yielded, three_seen}
use Rattle.contactrecord.proofs.wording.holds_three.Goals as goal

pub returns : goal.returns
returns c =
    let s = c.args.s.now in
    let word = c.args.word.now in
    fold_from_yields_List _ (λ seen w. seen || are_three word w) false _ c.fold.ensures.ran (windows_yielded c.windows.result 3 s (lit< tt) c.windows.ensures.size c.windows.ensures.rest) (λ seen x r q k. search (rules, tests))
    ∙ three_seen word s false c.requires
