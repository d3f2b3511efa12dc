-- `testing::followed`: the key read is the last one then. Assumes nothing.
use Rattle.takeback.proofs.PlaceLaws.{key_numbers}
use Rattle.text.proofs.ByteNumberLaws.{bytes_of}
use mathlib.Core.Path.{refl, sym, ◌∙◌}
use native.Mathlib.Omega.{arith}
use lib.ListN.{take, drop}
use Rattle.takeback.proofs.testing.followed.Goals as goal

pub returns-then-not-is_after : goal.returns-then-not-is_after
returns-then-not-is_after c =
    let a = c.args in
    let b = bytes_of a.bytes.now (λ i h. omega (arith, c.type_inv.bytes i)) in
    let k = key_numbers a.bytes.now a.o c.eight_number.result c.four_number.result c.requires b c.eight_number.ensures c.four_number.ensures.0 in
    λ last il. sym (c.is_after.ensures last (take 12 (drop a.o a.bytes.now)) il k) ∙ c.if-not-is_after.true

pub returns : goal.returns
returns c =
    let a = c.args in
    let b = bytes_of a.bytes.now (λ i h. omega (arith, c.type_inv.bytes i)) in
    let k = key_numbers a.bytes.now a.o c.eight_number.result c.four_number.result c.requires b c.eight_number.ensures c.four_number.ensures.0 in
    record {
      at_is = refl;
      marks_is = refl;
      behind = λ last il. sym (c.is_after.ensures last (take 12 (drop a.o a.bytes.now)) il k) ∙ c.if-not-is_after.false;
      last_is = (take 12 (drop a.o a.bytes.now), refl, k);
    }
