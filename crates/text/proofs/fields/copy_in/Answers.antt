-- `fields::copy_in` meets its contract: the part copied over is a splice. Assumes nothing.
use mathlib.Core.Path.{refl, ◌∙◌}
use Prim.Native.Nat.{◌+◌, ◌-◌}
use native.Mathlib.Omega.{arith}
use lib.ListN.{length}
use Rattle.std.proofs.lemmas.Slice.{put_mid-paste}
use Rattle.text.proofs.SplicedLaws.{paste_spliced}
use Rattle.text.proofs.fields.copy_in.Goals as goal

pub returns : goal.returns
returns c =
    let a = c.args in
    let n = length a.src.now in
    put_mid-paste a.at (a.at + n - a.at) a.dst.now _ a.src.now n c.copy_from_slice.ensures.after (omega arith) refl
    ∙ paste_spliced a.dst.now a.at a.src.now n refl
