-- `forms::line_of`: the fields are copied in one behind the other, with a space left after each. Assumes nothing.
use Rattle.pages.proofs.FormsLaws.{line_filled}
use Rattle.pages.proofs.forms.line_of.Goals as goal

pub returns : goal.returns
returns c =
    line_filled c.args.row.now c.requires _ _ _ _ _ _ _ c.copy.ensures c.copy-2.ensures c.copy-3.ensures c.copy-4.ensures c.copy-5.ensures c.bits_set.ensures c.put_number.ensures
