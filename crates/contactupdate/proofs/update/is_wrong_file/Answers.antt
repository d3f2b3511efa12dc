-- `is_wrong_file` answers whether 18 holds of the file: each test in the order of the sentence. Assumes nothing.
use borrow.Author.Tests.{eq-eqb, ne_eqb}
use Rattle.layout.proofs.LimitsLaws.{max_rows_lem}
use Rattle.contactupdate.specs.Update.{is_wrong_file}
use Rattle.contactupdate.proofs.update.is_wrong_file.Goals as goal

pub returns-then-file-ne0 : goal.returns-then-file-ne0
unfolding is_wrong_file
returns-then-file-ne0 c = rw (ne_eqb _ _ c.if-file-ne0.true)

pub returns : goal.returns
unfolding is_wrong_file
returns c = rw (max_rows_lem, eq-eqb _ _ c.if-file-ne0.false)
