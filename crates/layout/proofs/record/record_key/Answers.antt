-- `record::record_key` meets its contract: three copies side by side fill the twelve bytes. Assumes nothing.
use mathlib.Core.Path.{◌≡◌, refl}
use native.Mathlib.Omega.{arith}
use lib.Dec.{lit≤}
use lib.ListN.{replicate, length}
use Rattle.text.specs.Fields.{columns}
use Rattle.text.proofs.FieldsLaws.{length-columns}
use Rattle.layout.proofs.KeyWritten.{key_steps}
use Rattle.layout.proofs.record.record_key.Goals as goal

pub returns : goal.returns
returns c =
    let rec = c.args.rec.now in
    let n : length rec ≡ 245 = c.requires in
    let wa = length-columns 1 2 rec (record { low = lit≤ tt; ordered = lit≤ tt; high = omega arith }) in
    let wb = length-columns 6 14 rec (record { low = lit≤ tt; ordered = lit≤ tt; high = omega arith }) in
    key_steps (replicate 12 0) (columns 1 2 rec) (columns 6 14 rec) (columns 74 74 rec) c.copy.new.dst c.copy-2.new.dst _
    refl wa wb c.copy.ensures c.copy-2.ensures c.copy-3.ensures
