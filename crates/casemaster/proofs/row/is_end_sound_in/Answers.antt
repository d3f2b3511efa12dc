-- `row::is_end_sound_in` meets its contract: each form's own test. Assumes nothing.
use Rattle.casemaster.proofs.row.is_end_sound_in.Goals as goal

pub returns-in-Old : goal.returns-in-Old
returns-in-Old c = rw c.in-Old.is c.is_old_end_sound.ensures

pub returns-in-New : goal.returns-in-New
returns-in-New c = rw c.in-New.is c.is_end_sound.ensures
