-- `exclusions::exclusion_columns` meets its contract. The loop's invariant: what is written of the first n names, and behind it
-- the columns of the names and bits that are left, is the answer. Assumes nothing.
use mathlib.Core.Path.{◌≡◌}
use mathlib.Core.List.{◌++◌}
use Prim.Native.Nat.{◌*◌}
use lib.ListN.{length, take, drop}
use Rattle.exclusionsets.specs.Exclusions.{exclusion_names, names_shown, exclusion_columns}
use Rattle.exclusionsets.proofs.exclusions.exclusion_columns.Given as goal

abbrev pub invariant-loop-n : goal.invariant-loop-n
invariant-loop-n l =
    (length l.out ≡ 24) × (exclusion_columns l.set ≡ take (l.n * 3) l.out ++ names_shown l.left (drop l.n exclusion_names))
