-- `ssn::is_unissued` meets its contract: the parts of nine digits as they are written. Assumes nothing.
use Rattle.layout.proofs.SsnLaws.{unissued_parts}
use Rattle.layout.proofs.ssn.is_unissued.Goals as goal

pub returns : goal.returns
returns c = λ s t e f. rw (e, f) (unissued_parts s t)
