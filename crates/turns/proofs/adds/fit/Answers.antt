use mathlib.Core.Path.{sym}
use native.Mathlib.Omega.{arith}
use borrow.Author.Tests.{le-leb}
use Rattle.text.specs.Blocks.{blocks}
use Rattle.casemaster.specs.Master.{rows_of}
use Rattle.turns.proofs.NewLaws.{counted-most, counted_next, counted_end}
use Rattle.turns.proofs.adds.fit.Goals as goal

pub loop-i-init : goal.loop-i-init
loop-i-init c = omega (arith, c.requires.3)

pub returns-then-rows-most : goal.returns-then-rows-most
returns-then-rows-most c =
    let p = c.args in
    let l = c.loop-i in
    sym (le-leb _ p.most (omega (arith, counted-most (rows_of p.n p.m.now) (blocks 245 p.d p.batch.now) p.n l.i l.rows l.invariant, c.if-rows-most.true)))

pub has_row-rows-requires : goal.has_row-rows-requires
has_row-rows-requires c =
    (c.requires.0, c.requires.1, omega (arith, c.requires.2, c.loop-i-test.true))

pub overflow_sub-rows : goal.overflow_sub-rows
overflow_sub-rows c =
    let p = c.args in
    let l = c.loop-i in
    (counted_next (rows_of p.n p.m.now) p.batch.now p.d p.n l.i l.rows l.invariant c.loop-i-test.true c.has_row-rows.result c.has_row-rows.ensures).0

pub loop-i-preserved : goal.loop-i-preserved
loop-i-preserved c =
    let p = c.args in
    let l = c.loop-i in
    (counted_next (rows_of p.n p.m.now) p.batch.now p.d p.n l.i l.rows l.invariant c.loop-i-test.true c.has_row-rows.result c.has_row-rows.ensures).1

pub returns : goal.returns
returns c =
    let p = c.args in
    let l = c.loop-i in
    rw (counted_end (rows_of p.n p.m.now) p.batch.now p.d p.n l.i l.rows l.invariant c.loop-i-test.false)
