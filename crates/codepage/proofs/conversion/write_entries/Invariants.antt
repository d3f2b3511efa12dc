-- `conversion::write_entries` meets its contract. The invariant: the entries of the first i bytes are written. Assumes nothing.
use mathlib.Core.Path.{◌≡◌}
use Rattle.codepage.specs.Tables.{entries_of}
use Rattle.codepage.proofs.FrontLaws.{front}
use Rattle.codepage.proofs.conversion.write_entries.Given as goal

abbrev pub invariant-loop-i : goal.invariant-loop-i
invariant-loop-i l = l.out ≡ front (entries_of l.table l.input) l.initial.out l.i
