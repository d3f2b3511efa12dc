-- `words::bytes_number` meets its contract. The invariant: n is the number of the bytes read, which is below 256 to their number.
-- Assumes nothing.
use mathlib.Core.Path.{◌≡◌}
use Prim.Native.Nat.{◌^◌, ◌<◌}
use lib.ListN.{take, drop}
use Rattle.text.specs.ByteNumbers.{bytes_number}
use Rattle.text.proofs.words.bytes_number.Given as goal

abbrev pub invariant-loop-b : goal.invariant-loop-b
invariant-loop-b g l = record {
  number : l.n ≡ bytes_number (take l.b-index (drop l.i l.a));
  below : l.n < 256 ^ l.b-index;
}
