-- `line::append_number`: the fewest digits of a 64-bit number are its decimal text, and there are at most 20. Assumes nothing.
use mathlib.Core.List.{List}
use mathlib.Core.Path.{◌≡◌, ◌∙◌}
use Prim.Native.Nat.{ℕ, ◌+◌, ◌-◌, ◌≤◌}
use lib.ListN.{length, take, length-take}
use Rattle.apply_output.specs.Decimal.{decimal}
use Rattle.apply_output.proofs.DecimalLaws.{twenty_places, fewest_decimal}
use Rattle.apply_output.proofs.LineLaws.{spliced-appended}
use native.Mathlib.Omega.{arith}
use Rattle.apply_output.proofs.line.append_number.Goals as goal

pub copy_in-requires : goal.copy_in-requires
copy_in-requires c =
    let k = c.decimal-k.result in
    let l : k ≤ 20 = twenty_places c.args.n k (omega arith) c.decimal-k.ensures.len in
    simp length-take (omega arith)

pub overflow_add-result : goal.overflow_add-result
overflow_add-result c =
    let k = c.decimal-k.result in
    let l : k ≤ 20 = twenty_places c.args.n k (omega arith) c.decimal-k.ensures.len in
    omega (arith, c.requires)

pub returns : goal.returns
returns c =
    let a = c.args in
    let k = c.decimal-k.result in
    let t : List ℕ = c.decimal-k.new.out in
    let f = c.decimal-k.ensures.len in
    let l : k ≤ 20 = twenty_places a.n k (omega arith) f in
    let z : k - 0 ≡ k = omega arith in
    let d : take (k - 0) t ≡ decimal a.n = rw z (c.decimal-k.ensures.digits ∙ fewest_decimal a.n k f) in
    let e : a.at + k ≡ a.at + length (take (k - 0) t) = omega (arith, length-take (k - 0) t, c.decimal-k.ensures.in_bounds) in
    (rw d at (spliced-appended a.out.now a.at (take (k - 0) t) _ (a.at + k) (omega (arith, c.requires)) e c.copy_in.ensures), omega arith)
