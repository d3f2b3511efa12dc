-- `tables::ascii_code`: the table says of a byte what the list of characters says. Assumes nothing.
use Prim.Native.Nat.{ℕ}
use mathlib.Core.Path.{ap, ◌∙◌}
use mathlib.Core.List.{List}
use Rattle.codepage.specs.CodePage.{ascii_of}
use Rattle.codepage.specs.Tables.{code_in}
use Rattle.codepage.proofs.TablesLaws.{table_says}
use Rattle.codepage.proofs.CodePageLaws.{ascii_bytewise}
use Rattle.codepage.proofs.tables.ascii_code.Goals as goal

pub returns : goal.returns
unfolding code_in
returns c =
    ap (λ (table : List ℕ). code_in table c.args.b) c.ascii_table-table.ensures ∙ table_says ascii_of ascii_bytewise c.args.b
