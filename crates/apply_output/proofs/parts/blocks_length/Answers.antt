-- `parts::blocks_length`: n blocks beyond the end of s are all of s, and else their product fits. Assumes nothing.
use mathlib.Core.Path.{refl, sym, ◌∙◌}
use Prim.Native.Nat.{◌*◌, ◌/◌, ◌≤◌, ◌<◌}
use native.Mathlib.Nat.{div-lt_iff_lt-mul, le-div_iff_mul-le, le_of_lt}
use lib.Seq.{take_all, take-length}
use native.Mathlib.Omega.{arith}
use lib.ListN.{length}
use Rattle.apply_output.proofs.parts.blocks_length.Goals as goal

pub returns-then-s-width : goal.returns-then-s-width
returns-then-s-width c =
    let a = c.args in
    let long : length a.s.now < a.n * a.width = (div-lt_iff_lt-mul c.requires).0 c.if-s-width.true in
    take-length a.s.now ∙ sym (take_all (a.n * a.width) a.s.now (le_of_lt long))

pub overflow_mul-result : goal.overflow_mul-result
overflow_mul-result c =
    let a = c.args in
    let short : a.n ≤ length a.s.now / a.width = omega arith in
    let fits : a.n * a.width ≤ length a.s.now = (le-div_iff_mul-le c.requires).0 short in
    omega arith

pub returns : goal.returns
returns c = refl
