-- `name::is_name` meets its contract: four letters are a name, and else each byte is looked at. Assumes nothing.
use mathlib.Core.Path.{sym, ◌∙◌}
use Rattle.layout.proofs.NameLaws.{four_name}
use Rattle.layout.proofs.name.is_name.Goals as goal

pub returns-then-are_four_letters : goal.returns-then-are_four_letters
returns-then-are_four_letters c =
    let t = sym c.are_four_letters.ensures ∙ c.if-are_four_letters.true in
    rw (c.if-are_four_letters.true, four_name c.args.s.now c.if-s-ne4.false t)
