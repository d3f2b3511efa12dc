-- `layout::codes::codes_text` meets its contract. The invariant: the set that is left has the codes from the k-th on, and the first k
-- are written, with spaces behind them. Assumes nothing.
use mathlib.Core.Path.{◌≡◌}
use lib.ListN.{take, drop}
use Rattle.layout.specs.Codes.{codes_of_number, codes_text}
use Rattle.layout.proofs.codes.codes_text.Given as goal

abbrev pub invariant-loop-k : goal.invariant-loop-k
invariant-loop-k l = record {
  left_is : codes_of_number l.left ≡ drop l.k (codes_of_number l.set);
  written : l.out ≡ codes_text 6 (take l.k (codes_of_number l.set));
}
