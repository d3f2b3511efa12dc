-- `forms::foot_of`: the word and the number of lines are put in over spaces. Assumes nothing.
use Rattle.pages.proofs.FormsLaws.{foot_filled}
use Rattle.pages.proofs.forms.foot_of.Goals as goal

pub returns : goal.returns
returns c = foot_filled c.args.lines _ _ c.put.ensures c.put_number.ensures
