-- `line::line_key` meets its contract: the key is written field by field. Assumes nothing.
use mathlib.Core.Path.{◌≡◌, refl}
use native.Mathlib.Omega.{arith}
use lib.Dec.{lit≤}
use lib.ListN.{replicate, length}
use Rattle.text.specs.Fields.{columns}
use Rattle.text.proofs.FieldsLaws.{length-columns}
use Rattle.layout.proofs.KeyWritten.{key_steps}
use Rattle.collectionfile.specs.Line.{line_key}
use Rattle.collectionfile.proofs.line.line_key.Goals as goal

pub returns : goal.returns
unfolding line_key
returns c =
    let line = c.args.line.now in
    let n : length line ≡ 240 = c.requires in
    let wa = length-columns 1 2 line (record { low = lit≤ tt; ordered = lit≤ tt; high = omega arith }) in
    let wb = length-columns 6 14 line (record { low = lit≤ tt; ordered = lit≤ tt; high = omega arith }) in
    key_steps (replicate 12 0) (columns 1 2 line) (columns 6 14 line) (columns 107 107 line)
    c.copy.new.dst c.copy-2.new.dst _
    refl wa wb c.copy.ensures c.copy-2.ensures
    c.copy-3.ensures
