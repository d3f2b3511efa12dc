use Rattle.std.proofs.Common.{length, arith, rules, lit<}
use Rattle.std.proofs.lemmas.List.{length_push}
use Rattle.text.proofs.ChunksLaws.{chunk_here, chunks_end}
use Rattle.contacttable.proofs.TableLaws.{length_contact}
use Rattle.contacttable.proofs.CodesLaws.{codes_start, codes_room, codes_write, codes_done}
use Rattle.contacttable.proofs.codes.put_codes.Goals as goal

pub loop-rec-init : goal.loop-rec-init
loop-rec-init c =
    let a = c.args in
    (search rules, search rules, codes_start a.state.now a.n a.m.now a.out.now)

pub put_code-k-requires : goal.put_code-k-requires
put_code-k-requires c =
    let a = c.args in
    let l = c.loop-rec in
    let k = c.chunks_exact-rec-items in
    let h = chunk_here 220 (lit< tt) a.n a.m.now c.requires.0 k.result k.ensures.size k.ensures.rest _ c.into_iter-rec-iterator.ensures.into_iter_gives l.yielded _ l.yielded_by c.next.result c.next.new.self c.next.ensures.steps c.in-Some.rec c.in-Some.is in
    let i = length l.yielded in (
      h.2,
      rw h.1 (codes_room a.state.now a.n a.m.now a.out.now l.out l.k i l.invariant.2 h.0 c.requires.1),
    )

pub loop-rec-preserved : goal.loop-rec-preserved
loop-rec-preserved c =
    let a = c.args in
    let l = c.loop-rec in
    let k = c.chunks_exact-rec-items in
    let h = chunk_here 220 (lit< tt) a.n a.m.now c.requires.0 k.result k.ensures.size k.ensures.rest _ c.into_iter-rec-iterator.ensures.into_iter_gives l.yielded _ l.yielded_by c.next.result c.next.new.self c.next.ensures.steps c.in-Some.rec c.in-Some.is in
    let i = length l.yielded in
    let e = c.put_code-k.ensures in (
      search rules,
      search rules,
      rw (length_push l.yielded c.in-Some.rec, e.0, e.1, h.1) (codes_write a.state.now a.n a.m.now a.out.now l.out l.k i l.invariant.2 h.0 c.requires.1 (length_contact a.n a.m.now i h.0 c.requires.0)),
    )

pub shape_of-out : goal.shape_of-out
shape_of-out c = c.loop-rec.auto.out

pub returns : goal.returns
returns c =
    let a = c.args in
    let l = c.loop-rec in
    let k = c.chunks_exact-rec-items in
    let e = chunks_end 220 (lit< tt) a.n a.m.now c.requires.0 k.result k.ensures.size k.ensures.rest _ c.into_iter-rec-iterator.ensures.into_iter_gives l.yielded _ l.yielded_by c.next.result c.next.new.self c.next.ensures.steps c.in-None.is in
    codes_done a.state.now a.n a.m.now a.out.now l.out l.k (length l.yielded) l.invariant.2 (omega (arith, e)) c.requires.1
