-- `rank::own_rank`: the SSN of an own key is nine digits, so twice its number and one is below 2 ^ 31. Assumes nothing.
use mathlib.Core.Path.{◌≡◌, sym}
use Prim.Native.Nat.{◌+◌, ◌*◌, ◌<◌, ◌^◌}
use native.Mathlib.Omega.{arith}
use lib.Dec.{lit<, lit≤}
use lib.ListN.{get_or}
use Rattle.text.proofs.FieldsLaws.{digits_all}
use Rattle.keyorder.specs.Order.{rank_of}
use Rattle.keyorder.proofs.RankLaws.{own_parts, own_rank, own_below, type_most}
use Rattle.keyorder.proofs.rank.own_rank.Goals as goal

pub number_at-ssn-requires : goal.number_at-ssn-requires
number_at-ssn-requires c =
    let o = own_parts c.args.state.now c.args.key.now c.requires in
    (record { low = lit≤ tt; ordered = lit≤ tt; high = omega (arith, o.width) }, lit< tt, digits_all 9 _ o.digits)

pub bounds-key-11 : goal.bounds-key-11
bounds-key-11 c =
    omega (arith, (own_parts c.args.state.now c.args.key.now c.requires).width)

pub overflow_add-result : goal.overflow_add-result
overflow_add-result c =
    let b : c.number_at-ssn.result < 10 ^ 9 = c.number_at-ssn.ensures.1 in
    omega (arith, b, c.type_rank.ensures, type_most (get_or c.args.key.now 11 0))

pub returns : goal.returns
returns c =
    let a = c.args in
    let e = own_rank a.state.now a.key.now c.requires in
    let r : c.number_at-ssn.result * 2 + c.type_rank.result ≡ rank_of a.state.now a.key.now = rw (c.type_rank.ensures, c.number_at-ssn.ensures.0) (sym e) in
    (r, omega (arith, r, own_below a.state.now a.key.now c.requires))
