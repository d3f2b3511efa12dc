-- `year::are_digits`: the four tests joined are the test of every byte. Assumes nothing.
use mathlib.Core.Bool.{and-true}
use Rattle.apply_files.proofs.year.are_digits.Goals as goal

pub returns : goal.returns
returns c = rw (and-true, c.is_within-3.ensures, c.is_within-4.ensures, c.is_within.ensures, c.is_within-2.ensures)
