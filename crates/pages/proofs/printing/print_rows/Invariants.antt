-- `printing::print_rows`: the loop keeps what is printed and what is still to be printed equal to the whole. Assumes nothing.
use lib.ListN.{length}
use Rattle.pages.proofs.PrintingLaws.{Printing}
use Rattle.pages.proofs.printing.print_rows.Given as goal

abbrev pub invariant-loop-row : goal.invariant-loop-row
invariant-loop-row l = Printing l.n l.m l.initial.out l.out l.written l.page l.rows (length l.yielded)
