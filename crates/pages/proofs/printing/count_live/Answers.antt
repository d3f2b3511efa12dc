use native.Mathlib.Omega.{arith}
use mathlib.Core.Path.{ap, ◌∙◌}
use mathlib.Core.Bool.{Bool, cond}
use mathlib.Core.List.{[], ◌∷◌}
use lib.Dec.{lit≤}
use lib.ListN.{length, length-append}
use Rattle.casemaster.specs.Row.{is_live}
use Rattle.text.proofs.ChunksLaws.{chunk_here, chunks_end}
use Rattle.pages.proofs.PrintingLaws.{count_next, lines_end}
use Rattle.pages.proofs.printing.count_live.Goals as goal

pub overflow_add-live : goal.overflow_add-live
overflow_add-live c =
    let a = c.args in
    let l = c.loop-row in
    let k = c.chunks_exact-row-items.ensures in
    let i = c.into_iter-row-iterator.ensures in
    let h = chunk_here 200 (lit≤ tt) a.n a.m.now c.requires _ k.size k.rest _ i.into_iter_gives l.yielded l.row-iterator l.yielded_by c.next.result c.next.new.self c.next.ensures.steps c.in-Some.row c.in-Some.is in
    omega (arith, c.one_if-live.ensures.1, h.0)

pub loop-row-preserved : goal.loop-row-preserved
loop-row-preserved c =
    let a = c.args in
    let l = c.loop-row in
    let k = c.chunks_exact-row-items.ensures in
    let i = c.into_iter-row-iterator.ensures in
    let h = chunk_here 200 (lit≤ tt) a.n a.m.now c.requires _ k.size k.rest _ i.into_iter_gives l.yielded l.row-iterator l.yielded_by c.next.result c.next.new.self c.next.ensures.steps c.in-Some.row c.in-Some.is in
    let e = count_next a.n a.m.now (length l.yielded) h.0 in
    let r = c.one_if-live.ensures.0 ∙ ap (λ (b : Bool). cond b 1 0) (c.is_live.ensures ∙ ap is_live h.1) in
    rw (length-append l.yielded (c.in-Some.row ∷ []))
    (omega (arith, c.one_if-live.ensures.1), omega (arith, e, r, l.invariant.1))

pub returns : goal.returns
returns c =
    let a = c.args in
    let l = c.loop-row in
    let k = c.chunks_exact-row-items.ensures in
    let i = c.into_iter-row-iterator.ensures in
    let n = chunks_end 200 (lit≤ tt) a.n a.m.now c.requires _ k.size k.rest _ i.into_iter_gives l.yielded l.row-iterator l.yielded_by c.next.result c.next.new.self c.next.ensures.steps c.in-None.is in
    let e = ap length (lines_end a.n a.m.now (length l.yielded) (omega (arith, n))) in
    (omega (arith, e, l.invariant.1), omega (arith, n))
