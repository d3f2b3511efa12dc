-- `tables::ascii_table` gives the table of what the list of characters says: the constant computes to it, all entries in one test.
-- Assumes nothing.
use mathlib.Core.Path.{refl}
use Rattle.codepage.specs.CodePage.{characters, code_among, ascii_of}
use Rattle.codepage.specs.Tables.{table_from, table_of}
use Rattle.codepage.proofs.tables.ascii_table.Goals as goal

pub returns : goal.returns
unfolding characters code_among ascii_of table_from table_of
returns c = refl
