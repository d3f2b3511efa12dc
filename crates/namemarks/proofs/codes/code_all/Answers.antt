use mathlib.Core.Path.{ap, ◌∙◌}
use Prim.Native.Nat.{◌<◌}
use native.Mathlib.Omega.{arith}
use lib.ListN.{length}
use Rattle.namemarks.specs.Codes.{name_code}
use Rattle.namemarks.proofs.MappedLaws.{mapped_start, mapped_next, mapped_end}
use Rattle.namemarks.proofs.codes.code_all.Goals as goal

pub loop-number-init : goal.loop-number-init
loop-number-init c = mapped_start _ _

pub code-requires : goal.code-requires
code-requires c =
    let l = c.loop-number in
    let k = l.number-index in
    let i : k < length c.args.numbers.now = omega (arith, c.loop-number-test.true) in
    rw (l.invariant.kept k (omega arith)) (c.requires.there k i, c.requires.gives k i)

pub loop-number-preserved : goal.loop-number-preserved
loop-number-preserved c =
    let l = c.loop-number in
    let k = l.number-index in
    let a = c.args in
    let i : k < length l.numbers = omega (arith, c.loop-number-test.true, l.invariant.wide) in
    let e = c.code.ensures ∙ ap (name_code a.state.now a.batch.now) (l.invariant.kept k (omega arith)) in
    mapped_next (name_code a.state.now a.batch.now) a.numbers.now l.numbers k _ l.invariant i e

pub returns : goal.returns
returns c =
    let l = c.loop-number in
    mapped_end _ _ _ _ l.invariant (omega (arith, c.loop-number-test.false, l.invariant.wide))
