-- `fields::number_of` meets its contract. The invariant: the digits that are left go onto n, which is below ten to the number
-- of digits read. Assumes nothing.
use mathlib.Core.Path.{◌≡◌}
use mathlib.Core.Bool.{true}
use Prim.Native.Nat.{◌^◌, ◌<◌}
use lib.ListN.{drop}
use Rattle.text.specs.Characters.{is_digit}
use Rattle.text.specs.Fields.{every, number_onto}
use Rattle.text.proofs.fields.number_of.Given as goal

abbrev pub invariant-loop-b : goal.invariant-loop-b
invariant-loop-b l = record {
  below : l.n < 10 ^ l.b-index;
  digits : every is_digit (drop l.b-index l.s) ≡ true;
  onto : number_onto 0 l.s ≡ number_onto l.n (drop l.b-index l.s);
}
