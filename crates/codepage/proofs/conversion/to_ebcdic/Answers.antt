-- `conversion::to_ebcdic` meets its contract: the table says of every byte what the list of characters says. Assumes nothing.
use Rattle.codepage.specs.CodePage.{ebcdic_of}
use Rattle.codepage.proofs.AcceptedLaws.{passes_by_table}
use Rattle.codepage.proofs.CodePageLaws.{ebcdic_bytewise, outcome_by_table}
use Rattle.codepage.proofs.conversion.to_ebcdic.Goals as goal

pub convert-requires : goal.convert-requires
convert-requires c =
    passes_by_table ebcdic_of ebcdic_bytewise _ _ _ c.all_have_ebcdic-passed.ensures c.ebcdic_table-table.ensures

pub returns : goal.returns
returns c =
    outcome_by_table ebcdic_of ebcdic_bytewise _ _ _ _ c.convert.ensures c.ebcdic_table-table.ensures
