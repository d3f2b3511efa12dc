-- `byte_order::order_of` meets its contract. The loop's invariant: what remains of the two keys stands as the keys do. Assumes nothing.
use mathlib.Core.Path.{◌≡◌}
use lib.ListN.{length, drop}
use Rattle.text.specs.ByteOrder.{order_of}
use Rattle.text.proofs.byte_order.order_of.Given as goal

abbrev pub invariant-loop-x : goal.invariant-loop-x
invariant-loop-x l = order_of (drop (length l.yielded) l.a) (drop (length l.yielded) l.b) ≡ order_of l.a l.b
