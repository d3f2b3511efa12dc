-- `walk::put_row_of`: a state with a row has it written, one without leaves all bytes. Assumes nothing.
use Rattle.keywalk.proofs.WalkStepLaws.{row_put, none_put, row_room}
use Rattle.journalwalk.proofs.walk.put_row_of.Goals as goal

pub put_row-requires : goal.put_row-requires
put_row-requires c = row_room _ c.in-Some.row _ (rw c.in-Some.is at c.requires)

pub returns-in-Some : goal.returns-in-Some
returns-in-Some c = rw c.in-Some.is (row_put _ _ _ _ c.put_row.ensures)

pub returns-in-None : goal.returns-in-None
returns-in-None c = rw c.in-None.is (none_put _ _)
