-- `walk::case_at`: the flag decides both the state's row and what is asked for. Assumes nothing.
use Rattle.journalwalk.proofs.walk.case_at.Goals as goal

pub returns-then-held : goal.returns-then-held
returns-then-held c = rw (c.if-held.true, c.row_at.ensures)

pub returns-else-held : goal.returns-else-held
returns-else-held c = rw c.if-held.false c.no_case.ensures
