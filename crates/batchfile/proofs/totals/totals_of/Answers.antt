use Rattle.std.proofs.Common.{length, arith, rules, lit<}
use Rattle.std.proofs.lemmas.List.{length_push}
use Rattle.text.proofs.ChunksLaws.{chunk_here, chunks_end}
use Rattle.batchfile.proofs.TotalsLaws.{totals_room, totals_next, totals_end}
use Rattle.batchfile.proofs.totals.totals_of.Goals as goal

pub loop-rec-init : goal.loop-rec-init
loop-rec-init c =
    (search rules, search rules, record { tanf_count = omega arith; non_tanf_count = omega arith; tanf_amount = omega arith; non_tanf_amount = omega arith })

pub with_detail-t-requires : goal.with_detail-t-requires
with_detail-t-requires c =
    let a = c.args in
    let l = c.loop-rec in
    let k = c.chunks_exact-rec-items in
    let h = chunk_here 245 (lit< tt) a.n a.batch.now c.requires.0 k.result k.ensures.size k.ensures.rest _ c.into_iter-rec-iterator.ensures.into_iter_gives l.yielded _ l.yielded_by c.next.result c.next.new.self c.next.ensures.steps c.in-Some.rec c.in-Some.is in
    (totals_room _ _ (length l.yielded) l.t l.invariant.2 c.requires.1, h.2)

pub loop-rec-preserved : goal.loop-rec-preserved
loop-rec-preserved c =
    let a = c.args in
    let l = c.loop-rec in
    let k = c.chunks_exact-rec-items in
    let h = chunk_here 245 (lit< tt) a.n a.batch.now c.requires.0 k.result k.ensures.size k.ensures.rest _ c.into_iter-rec-iterator.ensures.into_iter_gives l.yielded _ l.yielded_by c.next.result c.next.new.self c.next.ensures.steps c.in-Some.rec c.in-Some.is in (
      search rules,
      search rules,
      rw (length_push l.yielded c.in-Some.rec) (totals_next _ _ (length l.yielded) l.t l.invariant.2 c.with_detail-t.result h.0 (rw h.1 at c.with_detail-t.ensures)),
    )

pub returns : goal.returns
returns c =
    let a = c.args in
    let l = c.loop-rec in
    let k = c.chunks_exact-rec-items in
    let e = chunks_end 245 (lit< tt) a.n a.batch.now c.requires.0 k.result k.ensures.size k.ensures.rest _ c.into_iter-rec-iterator.ensures.into_iter_gives l.yielded _ l.yielded_by c.next.result c.next.new.self c.next.ensures.steps c.in-None.is in
    totals_end _ _ (length l.yielded) l.t l.invariant.2 (omega (arith, e))
