-- `rejects::put_reject`: an empty set has no record, and another appends its record as one block more. Assumes nothing.
use mathlib.Core.List.{List, [], ◌∷◌, append-nil}
use mathlib.Core.Path.{◌≡◌, refl}
use Prim.Native.Nat.{◌^◌, ℕ, ◌+◌, ◌<◌}
use native.Mathlib.Nat.{le_refl}
use native.Mathlib.Omega.{arith}
use Rattle.rejectfile.specs.Rejects.{if_any, reject_record}
use Rattle.text.specs.Blocks.{blocks}
use Rattle.onecase.specs.Verdict.{meaning}
use Rattle.rejectfile.proofs.RejectsLaws.{codes_in, four_in, none_any, some_any, length_reject}
use Rattle.text.proofs.BlocksLaws.{holds_append}
use Rattle.rejectfile.proofs.rejects.put_reject.Goals as goal

pub returns-then-set_of-eq0 : goal.returns-then-set_of-eq0
returns-then-set_of-eq0 c =
    let a = c.args in
    let r : List ℕ = reject_record a.rec.now (meaning a.v) in
    let s = c.set_of in
    let e : if_any (meaning a.v).codes r ≡ [] = rw (codes_in a.v, ← s.ensures) (none_any s.result r c.if-set_of-eq0.true) in
    (record { blocks_are = rw (e, append-nil (blocks 245 a.k a.rejects.now)); rest_kept = refl }, le_refl a.k, omega arith)

pub returns : goal.returns
returns c =
    let a = c.args in
    let p = c.requires in
    let r : List ℕ = reject_record a.rec.now (meaning a.v) in
    let s = c.set_of in
    let f : s.result < 2 ^ 64 = omega (arith, s.type_inv) in
    let o : 0 < s.result = omega (arith, c.if-set_of-eq0.false) in
    let e : if_any (meaning a.v).codes r ≡ r ∷ [] = rw (codes_in a.v, ← s.ensures) (some_any s.result r f o) in (
      rw (e, c.copy_in.ensures, c.reject_record-out.ensures)
          (holds_append 245 a.k a.rejects.now r (length_reject a.rec.now (meaning a.v) p.0 (four_in a.v)) p.1),
      omega arith,
      le_refl (a.k + 1),
    )
