-- `are_good`: each record is asked for. Assumes nothing.
use Rattle.std.proofs.Common.{not, ◌∙◌, rules, lit<, tests}
use Rattle.std.proofs.lemmas.Iterator.Search.{all_from_yields_List}
use Rattle.text.proofs.ChunksLaws.{chunks_yielded, every-all}
use Rattle.contactrecord.specs.Contact.{is_faulty}
use Rattle.contacttable.specs.Table.{contacts_of}
use Rattle.contacttable.proofs.table.are_good.Goals as goal

pub returns : goal.returns
returns c =
    let n = c.args.n in
    let m = c.args.m.now in
    let k = c.chunks_exact.ensures in
    all_from_yields_List (λ rec. not (is_faulty rec)) _ _ _ c.all.ensures.ran
    (chunks_yielded 220 (lit< tt) n m c.requires c.chunks_exact.result k.size k.rest) (λ x b q k. search (rules, tests))
    ∙ every-all (λ rec. not (is_faulty rec)) (contacts_of n m)
