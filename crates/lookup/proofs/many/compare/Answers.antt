-- `many::compare`: keys of twelve bytes stand as their numbers do, and are equal where neither is below the other. Assumes nothing.
use native.Mathlib.Omega.{arith}
use mathlib.Core.Path.{sym, ◌∙◌, ◌≡◌}
use mathlib.Core.List.{List}
use Prim.Native.Nat.{ℕ, ◌*◌}
use lib.ListN.{take, drop}
use Rattle.text.specs.ByteOrder.{order_of, is_less}
use Rattle.text.proofs.ByteNumberLaws.{bytes_of}
use Rattle.lookup.proofs.KeysLaws.{numbers_at, key_in_list, first_below, second_below, neither_below}
use Rattle.lookup.proofs.many.compare.Goals as goal
use Rattle.lookup.proofs.many.compare.Goals.{After-is_twelve_below_in, After-is_twelve_below_in-2}

-- the key of the row at p, and the key at i
abbrev row_key_at : List ℕ → ℕ → List ℕ
row_key_at m p = take 12 (drop (p * 200) m)

-- what the first comparison of numbers says
row_below : (c : After-is_twelve_below_in)
    → c.is_twelve_below_in.result ≡ is_less (order_of (row_key_at c.args.m.now c.args.p) (key_in_list c.args.keys.now c.args.i))
row_below c =
    let a = c.args in
    let m = a.m.now in
    let k = a.keys.now in
    let n = numbers_at m (a.p * 200) _ _ c.requires.0 (bytes_of m (λ i h. omega (arith, c.shared_slice_known-1.given i)))
    c.eight_number-row_front.ensures c.four_number-row_back.ensures.0 in
    let o = numbers_at k (a.i * 12) _ _ c.requires.1 (bytes_of k (λ i h. omega (arith, c.shared_slice_known-2-1.given i)))
    c.eight_number-front.ensures c.four_number-back.ensures.0 in
    c.is_twelve_below_in.ensures (row_key_at a.m.now a.p) (key_in_list a.keys.now a.i) n.wide o.wide n.bytes o.bytes
    n.front_is n.back_is o.front_is o.back_is

-- and the second
key_below : (c : After-is_twelve_below_in-2)
    → c.is_twelve_below_in-2.result ≡ is_less (order_of (key_in_list c.args.keys.now c.args.i) (row_key_at c.args.m.now c.args.p))
key_below c =
    let a = c.args in
    let m = a.m.now in
    let k = a.keys.now in
    let n = numbers_at m (a.p * 200) _ _ c.requires.0 (bytes_of m (λ i h. omega (arith, c.shared_slice_known-1.given i)))
    c.eight_number-row_front.ensures c.four_number-row_back.ensures.0 in
    let o = numbers_at k (a.i * 12) _ _ c.requires.1 (bytes_of k (λ i h. omega (arith, c.shared_slice_known-2-1.given i)))
    c.eight_number-front.ensures c.four_number-back.ensures.0 in
    c.is_twelve_below_in-2.ensures (key_in_list a.keys.now a.i) (row_key_at a.m.now a.p) o.wide n.wide o.bytes n.bytes
    o.front_is o.back_is n.front_is n.back_is

pub returns-then-is_twelve_below_in : goal.returns-then-is_twelve_below_in
returns-then-is_twelve_below_in c =
    let a = c.args in
    first_below (row_key_at a.m.now a.p) (key_in_list a.keys.now a.i) (sym (row_below (goal.at.returns-then-is_twelve_below_in c).After-is_twelve_below_in) ∙ c.if-is_twelve_below_in.true)

pub returns-then-is_twelve_below_in-2 : goal.returns-then-is_twelve_below_in-2
returns-then-is_twelve_below_in-2 c =
    let a = c.args in
    second_below (row_key_at a.m.now a.p) (key_in_list a.keys.now a.i) (sym (key_below (goal.at.returns-then-is_twelve_below_in-2 c).After-is_twelve_below_in-2) ∙ c.if-is_twelve_below_in-2.true)

pub returns : goal.returns
returns c =
    let a = c.args in
    neither_below (row_key_at a.m.now a.p) (key_in_list a.keys.now a.i) (sym (row_below (goal.at.returns c).After-is_twelve_below_in) ∙ c.if-is_twelve_below_in.false)
    (sym (key_below (goal.at.returns c).After-is_twelve_below_in-2) ∙ c.if-is_twelve_below_in-2.false)
