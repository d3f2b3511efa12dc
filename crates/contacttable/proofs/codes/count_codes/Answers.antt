-- `count_codes`: the records that are wanted are counted. Assumes nothing.
use Rattle.std.proofs.Common.{◌∙◌, rules, lit<, tests}
use Rattle.std.proofs.lemmas.Iterator.Consumers.{YieldsList-from_filter, YieldsList-at, count_from_yields_List}
use Rattle.text.proofs.ChunksLaws.{chunks_yielded}
use Rattle.contacttable.specs.Codes.{is_local_of}
use Rattle.contacttable.specs.Table.{contacts_of}
use Rattle.contacttable.proofs.CodesLaws.{count_local}
use Rattle.contacttable.proofs.codes.count_codes.Goals as goal

pub returns : goal.returns
returns c =
    let n = c.args.n in
    let m = c.args.m.now in
    let state = c.args.state.now in
    let k = c.chunks_exact.ensures in
    count_from_yields_List c.filter.result _ c.count.ensures.ran
    (YieldsList-from_filter _ (is_local_of state) (YieldsList-at c.filter.ensures.source (chunks_yielded 220 (lit< tt) n m c.requires c.chunks_exact.result k.size k.rest)) c.filter.ensures.closure (λ x b q k. search (rules, tests)))
    ∙ count_local state (contacts_of n m)
