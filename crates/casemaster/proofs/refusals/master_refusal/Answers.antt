-- `refusals::master_refusal` meets its contract: the refusals over the form with cents are the definition's. Assumes nothing.
use Rattle.casemaster.specs.Row.{is_sound_row}
use Rattle.casemaster.specs.Master.{are_sound_rows}
use Rattle.casemaster.specs.Refusals.{refusal4, master_refusal}
use Rattle.casemaster.specs.Forms.{is_sound_in, are_sound_in, refusal_in}
use Rattle.casemaster.proofs.refusals.master_refusal.Goals as goal

pub returns : goal.returns
unfolding master_refusal refusal4 are_sound_rows is_sound_row refusal_in are_sound_in is_sound_in
returns c = c.refusal_in.ensures
