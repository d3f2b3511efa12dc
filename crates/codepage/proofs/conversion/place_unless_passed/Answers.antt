-- `conversion::place_unless_passed` meets its contract: a passed file has no such byte; else the table tells. Assumes nothing.
use mathlib.Core.Path.{sym, ap, ◌∙◌}
use Rattle.codepage.specs.Conversion.{place_found}
use Rattle.codepage.proofs.ConversionLaws.{place_by_table}
use Rattle.codepage.proofs.conversion.place_unless_passed.Goals as goal

pub returns-then-passed : goal.returns-then-passed
returns-then-passed c = sym (c.requires c.if-passed.true)

pub returns : goal.returns
returns c = ap place_found c.place_without.ensures ∙ place_by_table c.args.table.now c.args.input.now
