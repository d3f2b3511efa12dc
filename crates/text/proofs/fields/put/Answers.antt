-- `fields::put` meets its contract: what is as wide as the columns is spliced in there. Assumes nothing.
use mathlib.Core.Path.{◌∙◌}
use Rattle.text.proofs.FieldsLaws.{placed-spliced}
use Rattle.text.proofs.fields.put.Goals as goal

pub returns : goal.returns
returns c =
    let a = c.args in
    let p = c.requires in
    c.copy_in.ensures ∙ placed-spliced a.c.first a.c.last a.src.now a.dst.now p.0.low p.1
