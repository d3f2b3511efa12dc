use native.Mathlib.Omega.{arith}
use mathlib.Core.List.{[], ◌∷◌}
use lib.Dec.{lit≤}
use lib.ListN.{length-append, length-take, length-drop}
use Rattle.text.proofs.ChunksLaws.{chunk_here, chunks_end}
use Rattle.pages.proofs.PrintingLaws.{printing_start, printing_room, printing_next, last_room, printing_end}
use Rattle.pages.proofs.printing.print_rows.Goals as goal

pub loop-row-init : goal.loop-row-init
loop-row-init c =
    let a = c.args in
    printing_start a.n a.m.now a.out.now

pub print_row-standing-requires : goal.print_row-standing-requires
print_row-standing-requires c =
    let a = c.args in
    let l = c.loop-row in
    let k = c.chunks_exact-row-items.ensures in
    let i = c.into_iter-row-iterator.ensures in
    let h = chunk_here 200 (lit≤ tt) a.n a.m.now c.requires.0 _ k.size k.rest _ i.into_iter_gives l.yielded l.row-iterator l.yielded_by c.next.result c.next.new.self c.next.ensures.steps c.in-Some.row c.in-Some.is in (
      rw h.1 (simp (length-take, length-drop) (omega (arith, h.0))),
      omega (arith, l.invariant.few),
      omega (arith, l.invariant.early),
      rw h.1 (printing_room a.n a.m.now a.out.now l.invariant c.requires.1 h.0),
    )

pub loop-row-preserved : goal.loop-row-preserved
loop-row-preserved c =
    let a = c.args in
    let l = c.loop-row in
    let k = c.chunks_exact-row-items.ensures in
    let i = c.into_iter-row-iterator.ensures in
    let h = chunk_here 200 (lit≤ tt) a.n a.m.now c.requires.0 _ k.size k.rest _ i.into_iter_gives l.yielded l.row-iterator l.yielded_by c.next.result c.next.new.self c.next.ensures.steps c.in-Some.row c.in-Some.is in
    let p = c.print_row-standing in
    rw (length-append l.yielded (c.in-Some.row ∷ []))
    (printing_next a.n a.m.now a.out.now l.invariant c.requires.1 p.new.out _ _ _ h.0 p.auto.out (rw h.1 at p.ensures))

pub close_page-requires : goal.close_page-requires
close_page-requires c =
    let a = c.args in
    let l = c.loop-row in
    let k = c.chunks_exact-row-items.ensures in
    let i = c.into_iter-row-iterator.ensures in
    let n = chunks_end 200 (lit≤ tt) a.n a.m.now c.requires.0 _ k.size k.rest _ i.into_iter_gives l.yielded l.row-iterator l.yielded_by c.next.result c.next.new.self c.next.ensures.steps c.in-None.is in
    last_room a.n a.m.now a.out.now c.loop-row.invariant c.requires.1 (omega (arith, n))

pub returns : goal.returns
returns c =
    let a = c.args in
    let l = c.loop-row in
    let k = c.chunks_exact-row-items.ensures in
    let i = c.into_iter-row-iterator.ensures in
    let n = chunks_end 200 (lit≤ tt) a.n a.m.now c.requires.0 _ k.size k.rest _ i.into_iter_gives l.yielded l.row-iterator l.yielded_by c.next.result c.next.new.self c.next.ensures.steps c.in-None.is in
    printing_end a.n a.m.now a.out.now c.loop-row.invariant c.requires.1 (omega (arith, n)) c.close_page.new.out c.close_page.result c.close_page.ensures
