use Rattle.posting.proofs.LineLaws.{fit_of}
use Rattle.text.proofs.BlocksLaws.{part_width}
use Prim.Native.Nat.{◌*◌, ◌<◌}
use native.Mathlib.Omega.{arith}
use lib.ListN.{length}
use Rattle.posting.proofs.WorkLaws.{going_none, going_next, going_end}
use Rattle.posting.proofs.post.work.Goals as goal

pub loop-i-init : goal.loop-i-init
loop-i-init c =
    let a = c.args in
    going_none a.m.now a.n a.file.now a.count a.lines.now (fit_of a.n a.m.now c.requires.0 c.requires.1)

pub loop-i-preserved : goal.loop-i-preserved
loop-i-preserved c =
    let a = c.args in
    let l = c.loop-i in
    let t = c.loop-i-test.true in
    let h : l.k < length l.lines = omega (arith, l.invariant.few, l.invariant.room, t, c.requires.4) in
    going_next a.m.now a.n a.file.now a.count a.lines.now l.m l.lines l.k l.i l.invariant t h _ _ _ _
    (rw (part_width 240 a.file.now (l.i * 240)) at c.post_near-posted.ensures) c.note-k.ensures.0 c.note-k.ensures.1

pub returns : goal.returns
returns c =
    let a = c.args in
    let l = c.loop-i in
    going_end a.m.now a.n a.file.now a.count a.lines.now l.m l.lines l.k l.i l.invariant (omega arith)
