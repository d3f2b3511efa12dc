use native.Mathlib.Omega.{arith}
use Rattle.casemaster.specs.Master.{rows_of}
use Rattle.casemaster.proofs.RowsLaws.{rows_rise}
use Rattle.casemaster.proofs.HalvingLaws.{rises_from}
use Rattle.keywalk.specs.Walking.{fixed_of}
use Rattle.keywalk.proofs.CountingLaws.{within-next, counting_start, counting_next, counting_done}
use Rattle.keywalk.proofs.counting.new_rows.Goals as goal

pub loop-s-init : goal.loop-s-init
loop-s-init c =
    let a = c.args in
    (omega arith, omega arith, omega arith, λ batch year list o r. counting_start (fixed_of a.state.now year list batch a.own a.n) a.m.now a.numbers.now o r)

pub count_key-s-requires : goal.count_key-s-requires
count_key-s-requires c =
    let a = c.args in
    let h = c.requires in
    let i = c.loop-s.invariant in
    record { position_lt_own = (c.loop-s-test.true, h.2, h.3); from_le_n = (i.1, h.0, i.2, rises_from a.m.now a.n c.loop-s.s.from (rows_rise _ h.1)) }

pub loop-s-smaller : goal.loop-s-smaller
loop-s-smaller c = let k = c.count_key-s.ensures.0.ended in omega (arith, k.later, c.loop-s-test.true)

pub loop-s-preserved : goal.loop-s-preserved
loop-s-preserved c =
    let a = c.args in
    let i = c.loop-s.invariant in
    let k = c.count_key-s.ensures in (
      k.0.ended.within,
      within-next a.state.now a.own a.n a.m.now a.numbers.now _ _ k.0 i.1,
      k.1,
      λ batch year list o r. counting_next (fixed_of a.state.now year list batch a.own a.n) a.m.now a.numbers.now o r _ (i.3 batch year list o r) c.loop-s-test.true _ k.0,
    )

pub returns : goal.returns
returns c =
    let a = c.args in
    let i = c.loop-s.invariant in
    λ batch year list o.
    let r = rows_rise (rows_of a.n a.m.now) c.requires.1 in
    counting_done (fixed_of a.state.now year list batch a.own a.n) a.m.now a.numbers.now o r _ (i.3 batch year list o r) c.loop-s-test.false
