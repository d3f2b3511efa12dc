-- `place_of` answers the state's place: its two bytes are its number, and a state is two bytes. Assumes nothing.
use mathlib.Core.Path.{◌≡◌}
use native.Mathlib.Omega.{arith}
use Rattle.layout.specs.StateCodes.{state_place}
use Rattle.layout.proofs.StatesLaws.{state_wide}
use Rattle.layout.proofs.StatePlaceLaws.{place_below}
use Rattle.layout.proofs.states.place_of.Goals as goal

pub bounds-s-0 : goal.bounds-s-0
bounds-s-0 c = omega (arith, state_wide c.args.s.now c.requires)

pub bounds-s-1 : goal.bounds-s-1
bounds-s-1 c = omega (arith, state_wide c.args.s.now c.requires)

pub returns : goal.returns
unfolding state_place
returns c =
    let e : c.count_below.result ≡ state_place c.args.s.now = rw c.from_be_bytes.ensures at c.count_below.ensures in
    (e, rw e (place_below c.args.s.now c.requires))
