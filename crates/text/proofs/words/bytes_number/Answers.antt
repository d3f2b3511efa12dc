use mathlib.Core.Path.{◌≡◌, refl}
use Prim.Native.Nat.{◌+◌, ◌-◌, ◌<◌}
use native.Mathlib.Omega.{arith}
use lib.Dec.{lit<}
use lib.ListN.{length, get_or, take, drop, length-take}
use lib.Seq.{get_or-take, get_or-drop}
use Rattle.text.specs.ByteNumbers.{bytes_number}
use Rattle.text.proofs.ByteNumberLaws.{number_more, byte_more, bytes_fit}
use Rattle.text.proofs.words.bytes_number.Goals as goal
use Rattle.text.proofs.words.bytes_number.Goals.{In-loop-b}

-- the byte read in a turn is one of the N
turn : (g : _) (c : In-loop-b g)
    → let k = c.loop-b.b-index in
    let s = drop c.args.i c.args.a.now in
    let b = get_or (take (c.args.i + g.row.N - c.args.i) s) k 0 in
    (k < g.row.N) × (k < length s) × (b ≡ get_or s k 0) × (b < 256)
turn g c =
    let i = c.args.i in
    let k = c.loop-b.b-index in
    let n = i + g.row.N - i in
    let s = drop i c.args.a.now in
    let h : k < n = omega (arith, length-take n s) in
    let e = get_or-take n s k 0 h in
    let f = get_or-drop i c.args.a.now k 0 in
    (omega arith, omega (arith, length-take n s), e, omega (arith, e, f, c.type_inv.a (i + k)))

pub loop-b-init : goal.loop-b-init
unfolding bytes_number
loop-b-init g c = record { number = refl; below = lit< tt }

pub overflow_mul-n : goal.overflow_mul-n
overflow_mul-n g c =
    let l = c.loop-b in
    omega (arith, bytes_fit l.n l.b-index l.invariant.below (omega (arith, turn g c)))

pub overflow_add-n : goal.overflow_add-n
overflow_add-n g c =
    let l = c.loop-b in
    let t = turn g (goal.at.overflow_add-n g c).In-loop-b in
    omega (arith, t, bytes_fit l.n l.b-index l.invariant.below (omega (arith, t)))

pub loop-b-preserved : goal.loop-b-preserved
loop-b-preserved g c =
    let l = c.loop-b in
    let t = turn g (goal.at.loop-b-preserved g c).In-loop-b in
    let s = drop c.args.i c.args.a.now in
    record {
      number = rw t.2 (number_more s l.b-index l.n t.1 l.invariant.number);
      below = byte_more l.n _ l.b-index l.invariant.below t.3;
    }
