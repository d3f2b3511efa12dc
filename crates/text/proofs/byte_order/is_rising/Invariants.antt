-- `byte_order::is_rising` meets its contract. The loop's invariant: the keys from the block before i on rise as all do. Assumes nothing.
use mathlib.Core.Path.{◌≡◌}
use mathlib.Core.List.{map}
use Prim.Native.Nat.{◌-◌}
use lib.ListN.{drop, take}
use Rattle.text.specs.Blocks.{blocks}
use Rattle.text.specs.ByteOrder.{rising}
use Rattle.text.proofs.byte_order.is_rising.Given as goal

abbrev pub invariant-loop-i : goal.invariant-loop-i
invariant-loop-i l =
    rising (drop (l.i - 1) (map (take l.key) (blocks l.width l.n l.m))) ≡ rising (map (take l.key) (blocks l.width l.n l.m))
