use Prim.Native.Nat.{◌<◌}
use native.Mathlib.Omega.{arith}
use lib.ListN.{length}
use Rattle.namemarks.proofs.MappedLaws.{mapped_start, mapped_end}
use Rattle.namemarks.proofs.SweepLaws.{last_start, sweep_next}
use Rattle.namemarks.proofs.codes.sweep.Goals as goal

pub loop-number-init : goal.loop-number-init
loop-number-init c = (mapped_start _ _, last_start _)

pub restored-requires : goal.restored-requires
restored-requires c = (c.requires.0, c.one_if_given.ensures.1)

pub loop-number-preserved : goal.loop-number-preserved
loop-number-preserved c =
    let l = c.loop-number in
    let i : l.number-index < length l.numbers = omega (arith, c.loop-number-test.true, l.invariant.0.wide) in
    sweep_next c.args.rank c.args.numbers.now l.numbers l.number-index l.given _ _ _ c.requires.1 l.invariant.0 l.invariant.1 i
    c.given_by-given.ensures c.one_if_given.ensures.0 c.restored.ensures

pub returns : goal.returns
returns c =
    let l = c.loop-number in
    mapped_end _ _ _ _ l.invariant.0 (omega (arith, c.loop-number-test.false, l.invariant.0.wide))
