-- `accepted::all_have_ebcdic` meets its contract. The invariant: the whole passes where what was read and the rest do. Assumes nothing.
use mathlib.Core.Bool.{◌&&◌}
use mathlib.Core.Path.{◌≡◌}
use lib.ListN.{drop}
use Rattle.codepage.specs.CodePage.{ebcdic_of}
use Rattle.codepage.specs.Accepted.{every_has_counterpart}
use Rattle.codepage.proofs.accepted.all_have_ebcdic.Given as goal

abbrev pub invariant-loop-b : goal.invariant-loop-b
invariant-loop-b l = every_has_counterpart ebcdic_of l.input ≡ (l.ok && every_has_counterpart ebcdic_of (drop l.b-index l.input))
