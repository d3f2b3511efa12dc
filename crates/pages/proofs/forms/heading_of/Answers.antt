-- `forms::heading_of`: the word and the page number are put in over spaces. Assumes nothing.
use Rattle.pages.specs.Forms.{page_digits}
use Rattle.pages.proofs.FormsLaws.{heading_filled}
use Rattle.pages.proofs.forms.heading_of.Goals as goal

pub returns : goal.returns
unfolding page_digits
returns c = heading_filled c.args.number _ _ c.put.ensures c.put_number.ensures
