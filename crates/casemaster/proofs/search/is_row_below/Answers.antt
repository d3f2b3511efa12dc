-- `search::is_row_below` meets its contract: the slice handed on is the row's key of twelve bytes. Assumes nothing.
use mathlib.Core.List.{List}
use mathlib.Core.Path.{ap, ◌∙◌}
use Prim.Native.Nat.{ℕ, ◌*◌}
use Rattle.text.proofs.BlocksLaws.{part_width}
use Rattle.text.specs.ByteOrder.{order_of, is_less}
use Rattle.casemaster.proofs.search.is_row_below.Goals as goal

pub returns : goal.returns
returns c =
    let a = c.args in
    c.is_below.ensures ∙ ap (λ (z : List ℕ). is_less (order_of z a.key.now)) (part_width 12 a.m.now (a.p * 200))
