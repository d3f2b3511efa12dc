-- `line::put_line`: by the answer; a text that stands from the first byte on is a text over what was there. Assumes nothing.
use native.Mathlib.Omega.{arith}
use Rattle.apply_output.proofs.LineLaws.{appended-over}
use Rattle.apply_output.proofs.line.put_line.Goals as goal

pub returns-in-Ok : goal.returns-in-Ok
returns-in-Ok c =
    let put = c.put_done in
    rw (c.in-Ok.is, ← c.state_of.ensures.0) (record { out_after = appended-over _ put.new.out _ put.result put.ensures; value = omega (arith, put.ensures.ends) })

pub returns-in-Err : goal.returns-in-Err
returns-in-Err c =
    let put = c.put_refused in
    rw (c.in-Err.is, ← c.number.ensures) (record { out_after = appended-over _ put.new.out _ put.result put.ensures; value = omega (arith, put.ensures.ends) })
