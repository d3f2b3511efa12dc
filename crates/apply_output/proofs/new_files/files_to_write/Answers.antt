-- `new_files::files_to_write`: by the answer; each length takes the same bytes as its definition. Assumes nothing.
use Rattle.apply_output.proofs.new_files.files_to_write.Goals as goal

pub returns-in-Ok : goal.returns-in-Ok
returns-in-Ok c = rw (c.in-Ok.is, c.blocks_length.ensures, c.reject_length.ensures)

pub returns-in-Err : goal.returns-in-Err
returns-in-Err c = rw c.in-Err.is
