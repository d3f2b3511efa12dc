-- `name::is_lettered_name` meets its contract: four letters are a name and have one, and else each byte is looked at. Assumes nothing.
use mathlib.Core.Path.{sym, ◌∙◌}
use Rattle.layout.proofs.NameLaws.{four_name, four_letter}
use Rattle.layout.proofs.name.is_lettered_name.Goals as goal

pub returns-then-are_four_letters : goal.returns-then-are_four_letters
returns-then-are_four_letters c =
    let s = c.args.s.now in
    let t = sym c.are_four_letters.ensures ∙ c.if-are_four_letters.true in
    rw (c.if-are_four_letters.true, four_name s c.requires t, four_letter s t)
