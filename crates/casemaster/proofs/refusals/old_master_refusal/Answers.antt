-- `refusals::old_master_refusal` meets its contract: the refusals over the form without cents are the definition's. Assumes nothing.
use Rattle.casemaster.specs.Row.{is_sound_old_row}
use Rattle.casemaster.specs.Master.{are_sound_old_rows}
use Rattle.casemaster.specs.Refusals.{old_master_refusal}
use Rattle.casemaster.specs.Forms.{is_sound_in, are_sound_in, refusal_in}
use Rattle.casemaster.proofs.refusals.old_master_refusal.Goals as goal

pub returns : goal.returns
unfolding old_master_refusal are_sound_old_rows is_sound_old_row refusal_in are_sound_in is_sound_in
returns c = c.refusal_in.ensures
