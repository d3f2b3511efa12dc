-- `fields::put_number` meets its contract. The invariant: the columns behind the i-th hold the lowest digits, and what is left of
-- the number is without them. Assumes nothing.
use mathlib.Core.Path.{◌≡◌}
use mathlib.Core.List.{◌++◌}
use Prim.Native.Nat.{◌-◌, ◌/◌, ◌^◌, ◌≤◌}
use lib.ListN.{take, drop}
use Rattle.text.specs.Fields.{digit_field}
use Rattle.text.proofs.fields.put_number.Given as goal

abbrev pub invariant-loop-i : goal.invariant-loop-i
invariant-loop-i l = record {
  inside : l.i-start ≤ l.i;
  left_is : l.left ≡ l.n / 10 ^ (l.initial.i - l.i);
  written : l.dst ≡ take l.i l.initial.dst ++ digit_field (l.initial.i - l.i) l.n ++ drop l.initial.i l.initial.dst;
}
