-- `file::is_last_right` meets its contract: the definition's tests on the record behind the lines. Assumes nothing.
use Prim.Native.Nat.{◌*◌}
use lib.Dec.{lit≤}
use Rattle.text.proofs.BlocksLaws.{part_width}
use Rattle.collectionfile.proofs.FileLaws.{last_is, last_width}
use Rattle.collectionfile.proofs.file.is_last_right.Goals as goal

pub is_total-adjustments-requires : goal.is_total-adjustments-requires
is_total-adjustments-requires c = rw c.field-2.ensures (last_width c.args.file.now (c.args.count * 240) 35 49 (lit≤ tt) (lit≤ tt) (lit≤ tt) c.requires)

pub is_total-collections-requires : goal.is_total-collections-requires
is_total-collections-requires c = rw c.field-3.ensures (last_width c.args.file.now (c.args.count * 240) 50 64 (lit≤ tt) (lit≤ tt) (lit≤ tt) c.requires)

pub returns : goal.returns
returns c =
    let a = c.args in
    last_is a.file.now a.count _ _ _ _ _ _ _ _ (part_width 240 a.file.now (a.count * 240)) c.count_totals-t.ensures
    c.field.ensures c.same-text.ensures c.field-2.ensures c.is_total-adjustments.ensures c.field-3.ensures c.is_total-collections.ensures
