-- `counting::is_row_of`: the first twelve bytes of a row are its key, and behind the end there is none. Assumes nothing.
use mathlib.Core.Path.{ap, ◌∙◌}
use mathlib.Core.List.{List}
use Prim.Native.Nat.{ℕ, ◌*◌}
use Rattle.text.specs.Fields.{same_bytes}
use Rattle.text.proofs.BlocksLaws.{part_width}
use Rattle.keywalk.proofs.StandLaws.{ltb_lt, ltb_ge}
use Rattle.keywalk.proofs.counting.is_row_of.Goals as goal

pub returns-then-p-end : goal.returns-then-p-end
returns-then-p-end c =
    let a = c.args in
    rw (ltb_lt a.p a.end c.if-p-end.true) (c.same.ensures ∙ ap (λ (z : List ℕ). same_bytes z a.key.now) (part_width 12 a.m.now (a.p * 200)))

pub returns-else-p-end : goal.returns-else-p-end
returns-else-p-end c =
    let a = c.args in
    rw (ltb_ge a.p a.end c.if-p-end.false)
