-- `totals::has_totals`: the two tests are those of the definition. Assumes nothing.
use mathlib.Core.Path.{ap, ◌∙◌}
use mathlib.Core.Bool.{◌&&◌}
use Rattle.text.specs.Fields.{is_blank, all_digits}
use Rattle.batchfile.specs.Totals.{has_totals}
use Rattle.batchfile.proofs.totals.has_totals.Goals as goal

pub returns : goal.returns
unfolding has_totals
returns c =
    let digits = c.all_digits-digits.ensures ∙ ap all_digits c.field.ensures in
    let filler = c.is_blank-filler.ensures ∙ ap is_blank c.field-2.ensures in
    λ j. digits j && filler j
