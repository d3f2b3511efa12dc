-- `line::state_of`: the control record starts behind the details, and its first two bytes are the state. Assumes nothing.
use mathlib.Core.Path.{◌≡◌, ap, ◌∙◌}
use Prim.Native.Nat.{ℕ, ◌-◌, ◌*◌}
use lib.ListN.{length, take, drop, length-drop}
use lib.Seq.{take_all}
use Rattle.apply_output.proofs.LineLaws.{control_state_lem, length_two}
use native.Mathlib.Omega.{arith}
use Rattle.apply_output.proofs.line.state_of.Goals as goal

pub returns : goal.returns
returns c =
    let b = c.args.batch.now in
    let at = c.detail_count-at.result * 245 in
    let whole : take (length b - at) (drop at b) ≡ drop at b = take_all (length b - at) (drop at b) (simp length-drop (omega arith)) in
    let is : c.first.result.now ≡ take 2 (drop at b) = rw whole at c.first.ensures in
    (is ∙ control_state_lem b at (ap (λ (z : ℕ). z * 245) c.detail_count-at.ensures), rw is (length_two (drop at b)))
