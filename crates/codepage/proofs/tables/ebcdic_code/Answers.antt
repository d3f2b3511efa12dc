-- `tables::ebcdic_code`: the table says of a byte what the list of characters says. Assumes nothing.
use Prim.Native.Nat.{ℕ}
use mathlib.Core.Path.{ap, ◌∙◌}
use mathlib.Core.List.{List}
use Rattle.codepage.specs.CodePage.{ebcdic_of}
use Rattle.codepage.specs.Tables.{code_in}
use Rattle.codepage.proofs.TablesLaws.{table_says}
use Rattle.codepage.proofs.CodePageLaws.{ebcdic_bytewise}
use Rattle.codepage.proofs.tables.ebcdic_code.Goals as goal

pub returns : goal.returns
unfolding code_in
returns c =
    ap (λ (table : List ℕ). code_in table c.args.b) c.ebcdic_table-table.ensures ∙ table_says ebcdic_of ebcdic_bytewise c.args.b
