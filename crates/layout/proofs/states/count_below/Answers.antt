use mathlib.Core.List.{[]}
use mathlib.Core.Path.{◌≡◌, ◌∙◌}
use Prim.Native.Nat.{◌<◌}
use native.Mathlib.Omega.{arith}
use lib.ListN.{length, get_or}
use Rattle.layout.specs.StateCodes.{state_codes}
use Rattle.layout.proofs.StatesLaws.{states_length, state_code, code-bytes}
use Rattle.layout.proofs.StatePlaceLaws.{count_next, count_end}
use Rattle.layout.proofs.states.count_below.Goals as goal

pub loop-code-preserved : goal.loop-code-preserved
loop-code-preserved c =
    let l = c.loop-code in
    let i = l.code-index in
    let h : i < length state_codes = omega (arith, states_length, c.loop-code-test.true) in
    let y : c.from_be_bytes-y.result ≡ get_or state_codes i 0 = c.from_be_bytes-y.ensures ∙ code-bytes (get_or c.states.result i []) ∙ state_code c.states.ensures i in
    let e = rw (← y) at (count_next c.args.x state_codes i h) in
    record { few = omega (arith, c.one_if-n.ensures.1); counted = omega (arith, e, c.one_if-n.ensures.0, l.invariant.counted) }

pub returns : goal.returns
returns c =
    let l = c.loop-code in
    let e = count_end c.args.x state_codes l.code-index (omega (arith, states_length, c.loop-code-test.false)) in
    omega (arith, e, l.invariant.counted)
