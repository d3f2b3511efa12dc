use mathlib.Core.Path.{◌≡◌, refl, ◌∙◌}
use Prim.Native.Nat.{◌-◌, min, ◌<◌}
use native.Mathlib.Nat.{add-zero}
use native.Mathlib.Omega.{arith}
use lib.ListN.{length, get_or, length-drop}
use lib.Seq.{get_or-drop, drop-drop}
use Rattle.layout.specs.Codes.{codes_of_number, codes_text, six_lowest}
use Rattle.layout.proofs.CodesLaws.{text_more, text_all, codes_pos}
use Rattle.layout.proofs.codes.codes_text.Goals as goal
use Rattle.layout.proofs.codes.codes_text.Goals.{In-loop-k}

-- in a turn a place and a code are left, so the set is not empty
more : (c : In-loop-k)
    → (c.loop-k.k < 6) × (c.loop-k.k < length (codes_of_number c.args.set)) × (0 < c.loop-k.left)
more c =
    let l = c.loop-k in
    let cs = codes_of_number c.args.set in
    let a : l.k < length cs = omega (arith, c.written-k-end.ensures) in
    let e : length (codes_of_number l.left) ≡ length cs - l.k = rw l.invariant.left_is (length-drop l.k cs) in
    (omega (arith, c.written-k-end.ensures), a, codes_pos l.left (omega arith))

pub loop-k-init : goal.loop-k-init
unfolding codes_text
loop-k-init c = record { left_is = refl; written = refl }

pub lowest-c-requires : goal.lowest-c-requires
lowest-c-requires c = (more (goal.at.lowest-c-requires c).In-loop-k).2

pub without_lowest-left-requires : goal.without_lowest-left-requires
without_lowest-left-requires c = (more (goal.at.without_lowest-left-requires c).In-loop-k).2

pub loop-k-preserved : goal.loop-k-preserved
loop-k-preserved c =
    let l = c.loop-k in
    let cs = codes_of_number c.args.set in
    let m = more (goal.at.loop-k-preserved c).In-loop-k in
    let r : c.lowest-c.result ≡ get_or cs l.k 0 = c.lowest-c.ensures.1 ∙ rw (l.invariant.left_is, get_or-drop l.k cs 0 0, add-zero l.k) in
    record {
      left_is = c.without_lowest-left.ensures.1 ∙ rw (l.invariant.left_is, drop-drop 1 l.k cs);
      written = rw (l.invariant.written, r) (text_more 6 l.k cs m.0 m.1);
    }

pub returns : goal.returns
unfolding six_lowest
returns c =
    let l = c.loop-k in
    let cs = codes_of_number c.args.set in
    let e : l.k ≡ min 6 (length cs) = omega (arith, c.written-k-end.ensures) in
    l.invariant.written ∙ text_all 6 l.k cs e
