-- `row::is_sound_row` meets its contract: the key's two numbers are read first; the first state of the table is one. Assumes nothing.
use Rattle.layout.proofs.StatesLaws.{first_code}
use Rattle.casemaster.proofs.row.is_sound_row.Goals as goal

pub is_sound_row_in-requires : goal.is_sound_row_in-requires
is_sound_row_in-requires c =
    record { row_len = (c.requires, first_code, c.four_number-back.ensures.1); front_value = (c.eight_number-front.ensures, c.four_number-back.ensures.0) }

pub returns : goal.returns
returns c = c.is_sound_row_in.ensures
