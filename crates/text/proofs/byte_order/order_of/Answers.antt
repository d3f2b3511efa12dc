use mathlib.Core.Path.{◌≡◌, sym, ◌∙◌}
use Prim.Native.Nat.{◌<◌}
use native.Mathlib.Omega.{arith}
use lib.ListN.{length, get_or, length-append}
use Rattle.std.proofs.lemmas.Slice.Zip.{zip_turn, zip_end}
use Rattle.text.proofs.ByteOrderLaws.{order_differs, order_same, order_end}
use Rattle.text.proofs.byte_order.order_of.Goals as goal
use Rattle.text.proofs.byte_order.order_of.Goals.{In-Some}

-- the bytes of a turn are those of one index
turn : (c : In-Some)
    → let i = length c.loop-x.yielded in
    (i < length c.args.a.now) × (c.in-Some.x.now ≡ get_or c.args.a.now i 0) × (c.in-Some.y.now ≡ get_or c.args.b.now i 0)
turn c =
    let t = zip_turn c.args.a.now c.args.b.now c.loop-x.yielded c.into_iter-x-iterator.result c.loop-x.x-iterator c.next.new.self c.next.result (cc) (cc) c.loop-x.yielded_by (c.in-Some.x, c.in-Some.y) c.in-Some.is c.next.ensures.steps in
    (t.0, t.2 0, t.3 0)

pub returns-then-x-y : goal.returns-then-x-y
returns-then-x-y c =
    let t = turn (goal.at.returns-then-x-y c).In-Some in
    let i = length c.loop-x.yielded in
    rw (c.cmp.ensures, t.1, t.2)
    (sym (order_differs c.args.a.now c.args.b.now c.requires i t.0 (λ e. c.if-x-y.true (t.1 ∙ e ∙ sym t.2))) ∙ c.loop-x.invariant)

pub loop-x-preserved : goal.loop-x-preserved
loop-x-preserved c =
    let t = turn (goal.at.loop-x-preserved c).In-Some in
    let a = c.args.a.now in
    let b = c.args.b.now in
    let i = length c.loop-x.yielded in
    let e : get_or a i 0 ≡ get_or b i 0 = sym t.1 ∙ c.if-x-y.false ∙ t.2 in
    rw length-append (sym (order_same a b c.requires i t.0 e) ∙ c.loop-x.invariant)

pub returns : goal.returns
returns c =
    let a = c.args.a.now in
    let b = c.args.b.now in
    let i = length c.loop-x.yielded in
    let e = zip_end a b c.loop-x.yielded c.into_iter-x-iterator.result c.loop-x.x-iterator c.next.new.self c.next.result (cc) (cc) c.loop-x.yielded_by c.in-None.is c.next.ensures.steps in
    sym (order_end a b c.requires i (omega (arith, e))) ∙ c.loop-x.invariant
