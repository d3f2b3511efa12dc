-- `conversion::to_ascii` meets its contract: the table says of every byte what the list of characters says. Assumes nothing.
use Rattle.codepage.specs.CodePage.{ascii_of}
use Rattle.codepage.proofs.AcceptedLaws.{passes_by_table}
use Rattle.codepage.proofs.CodePageLaws.{ascii_bytewise, outcome_by_table}
use Rattle.codepage.proofs.conversion.to_ascii.Goals as goal

pub convert-requires : goal.convert-requires
convert-requires c =
    passes_by_table ascii_of ascii_bytewise _ _ _ c.all_have_ascii-passed.ensures c.ascii_table-table.ensures

pub returns : goal.returns
returns c =
    outcome_by_table ascii_of ascii_bytewise _ _ _ _ c.convert.ensures c.ascii_table-table.ensures
