use native.Mathlib.Omega.{arith}
use Rattle.posting.proofs.HintLaws.{halved_none, halved_next}
use Rattle.posting.proofs.hints.halve.Goals as goal

pub loop-k-init : goal.loop-k-init
loop-k-init c =
    halved_none c.args.n c.args.left c.args.places.now c.requires.2

pub next_place-requires : goal.next_place-requires
next_place-requires c =
    let l = c.loop-k in
    (c.requires.0, omega (arith, l.invariant.behind l.k (omega arith), c.requires.1))

pub loop-k-preserved : goal.loop-k-preserved
loop-k-preserved c =
    let l = c.loop-k in
    halved_next c.args.n c.args.left l.places l.k l.invariant c.next_place.result c.next_place.ensures

pub returns : goal.returns
returns c = c.loop-k.invariant.all
