use mathlib.Core.Path.{ap, ◌∙◌}
use mathlib.Core.List.{[], ◌∷◌}
use Prim.Native.Nat.{◌≤◌}
use native.Mathlib.Omega.{arith}
use lib.Dec.{lit≤}
use lib.ListN.{length, length-append}
use Rattle.text.proofs.ChunksLaws.{chunk_here, chunks_end}
use Rattle.collectionfile.specs.Line.{collected, adjusted}
use Rattle.collectionfile.proofs.TotalsLaws.{one_at_most, count_step, count_end}
use Rattle.collectionfile.proofs.file.count_totals.Goals as goal

pub overflow_add-adjustments : goal.overflow_add-adjustments
overflow_add-adjustments c =
    let o : c.from-adjustments.result ≤ 1 = rw c.from-adjustments.ensures (one_at_most _) in
    let a = c.args in
    let l = c.loop-line in
    let k = c.chunks_exact-line-items.ensures in
    let i = c.into_iter-line-iterator.ensures in
    let h = chunk_here 240 (lit≤ tt) a.count a.file.now c.requires _ k.size k.rest _ i.into_iter_gives l.yielded l.line-iterator l.yielded_by c.next.result c.next.new.self c.next.ensures.steps c.in-Some.line c.in-Some.is in
    omega (arith, h.0, o)

pub overflow_add-collections : goal.overflow_add-collections
overflow_add-collections c =
    let o : c.from-collections.result ≤ 1 = rw c.from-collections.ensures (one_at_most _) in
    let a = c.args in
    let l = c.loop-line in
    let k = c.chunks_exact-line-items.ensures in
    let i = c.into_iter-line-iterator.ensures in
    let h = chunk_here 240 (lit≤ tt) a.count a.file.now c.requires _ k.size k.rest _ i.into_iter_gives l.yielded l.line-iterator l.yielded_by c.next.result c.next.new.self c.next.ensures.steps c.in-Some.line c.in-Some.is in
    omega (arith, h.0, o)

pub loop-line-preserved : goal.loop-line-preserved
loop-line-preserved c =
    let a = c.args in
    let l = c.loop-line in
    let k = c.chunks_exact-line-items.ensures in
    let i = c.into_iter-line-iterator.ensures in
    let h = chunk_here 240 (lit≤ tt) a.count a.file.now c.requires _ k.size k.rest _ i.into_iter_gives l.yielded l.line-iterator l.yielded_by c.next.result c.next.new.self c.next.ensures.steps c.in-Some.line c.in-Some.is in
    let j = length l.yielded in
    let m = c.read_amounts-a.ensures in
    let x : c.from-adjustments.result ≤ 1 = rw c.from-adjustments.ensures (one_at_most _) in
    let y : c.from-collections.result ≤ 1 = rw c.from-collections.ensures (one_at_most _) in
    rw (length-append l.yielded (c.in-Some.line ∷ [])) (
      omega (arith, x, l.invariant.0),
      omega (arith, y, l.invariant.1),
      count_step adjusted a.count a.file.now j l.adjustments _ _ _ h.0 l.invariant.2 (m.adjustment_is ∙ ap adjusted h.1) c.from-adjustments.ensures,
      count_step collected a.count a.file.now j l.collections _ _ _ h.0 l.invariant.3 (m.collection_is ∙ ap collected h.1) c.from-collections.ensures,
    )

pub returns : goal.returns
returns c =
    let a = c.args in
    let l = c.loop-line in
    let k = c.chunks_exact-line-items.ensures in
    let i = c.into_iter-line-iterator.ensures in
    let e = chunks_end 240 (lit≤ tt) a.count a.file.now c.requires _ k.size k.rest _ i.into_iter_gives l.yielded l.line-iterator l.yielded_by c.next.result c.next.new.self c.next.ensures.steps c.in-None.is in
    let t = count_end adjusted a.count a.file.now (length l.yielded) (omega (arith, e)) in
    let u = count_end collected a.count a.file.now (length l.yielded) (omega (arith, e)) in
    record { adjustments_are = omega (arith, l.invariant.2, t); collections_are = omega (arith, l.invariant.3, u) }
