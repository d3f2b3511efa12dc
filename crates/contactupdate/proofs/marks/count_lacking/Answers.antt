-- `count_lacking`: the records that lack a mark are counted. Assumes nothing.
use Rattle.std.proofs.Common.{◌≡◌, ◌∙◌, length, not, refl, arith, rules, lit<, tests}
use Rattle.std.specs.List.{filter}
use Rattle.std.proofs.lemmas.List.Filters.{length-filter_both}
use Rattle.std.proofs.lemmas.Iterator.Consumers.{YieldsList-from_filter, YieldsList-at, count_from_yields_List}
use Rattle.text.proofs.BlocksLaws.{length-blocks}
use Rattle.text.proofs.ChunksLaws.{chunks_yielded}
use Rattle.contacttable.specs.Table.{contacts_of}
use Rattle.contactupdate.specs.Marks.{is_lacking}
use Rattle.contactupdate.proofs.MarksLaws.{count_lacks}
use Rattle.contactupdate.proofs.marks.count_lacking.Goals as goal

pub returns : goal.returns
returns c =
    let n = c.args.n in
    let file = c.args.file.now in
    let held = c.args.held.now in
    let k = c.chunks_exact.ensures in
    let e : c.count.result ≡ length (filter (is_lacking held) (contacts_of n file)) = count_from_yields_List c.filter.result _ c.count.ensures.ran
    (YieldsList-from_filter _ (is_lacking held) (YieldsList-at c.filter.ensures.source (chunks_yielded 220 (lit< tt) n file c.requires.0 c.chunks_exact.result k.size k.rest)) c.filter.ensures.closure (λ x b q k. search (rules, tests))) in
    (e ∙ count_lacks held c.requires.2 (contacts_of n file), omega (arith, e, length-filter_both (is_lacking held) (λ x. not (is_lacking held x)) (λ x. refl) (contacts_of n file), length-blocks 220 n file))
