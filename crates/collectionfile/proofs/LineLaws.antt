-- A line's key is twelve bytes. Assumes nothing.
use Prim.Native.Nat.{ℕ}
use mathlib.Core.Path.{◌≡◌}
use mathlib.Core.List.{List}
use native.Mathlib.Omega.{arith}
use lib.Dec.{lit≤}
use lib.ListN.{length, length-append}
use Rattle.text.proofs.FieldsLaws.{length-columns}
use Rattle.collectionfile.specs.Line.{line_key}

pub key_length : (line : List ℕ) → length line ≡ 240 → length (line_key line) ≡ 12
unfolding line_key
key_length line l =
    let a = length-columns 1 2 line (record { low = lit≤ tt; ordered = lit≤ tt; high = omega arith }) in
    let b = length-columns 6 14 line (record { low = lit≤ tt; ordered = lit≤ tt; high = omega arith }) in
    let d = length-columns 107 107 line (record { low = lit≤ tt; ordered = lit≤ tt; high = omega arith }) in
    simp length-append (omega (arith, a, b, d))
