-- `place_record` writes the record noted, else the one that the key had, else nothing. Assumes nothing.
use Rattle.text.proofs.BlocksLaws.{part_width}
use Rattle.text.proofs.SplicedLaws.{spliced_none}
use Rattle.contactupdate.proofs.MergingLaws.{present_one, present_held, chosen-file, chosen_table, chosen_none}
use lib.ListN.{length-take, drop}
use mathlib.Core.Path.{◌∙◌}
use native.Mathlib.Omega.{arith}
use Prim.Native.Nat.{◌+◌, ◌-◌, ◌*◌}
use Rattle.contactupdate.proofs.merging.place_record.Goals as goal

pub copy_in-requires : goal.copy_in-requires
copy_in-requires c =
    let a = c.args in
    let at = (a.last - 1) * 220 in
    omega (arith, c.requires.3, present_one a.held a.last c.if-last-ne0.true, length-take (at + 220 - at) (drop at a.file.now))

pub returns-then-last-ne0 : goal.returns-then-last-ne0
returns-then-last-ne0 c =
    let a = c.args in
    c.copy_in.ensures ∙ (rw (chosen-file a.file.now a.table.now a.held a.last a.o c.if-last-ne0.true, part_width 220 a.file.now ((a.last - 1) * 220)))

pub copy_in-requires-then-held-ne0 : goal.copy_in-requires-then-held-ne0
copy_in-requires-then-held-ne0 c =
    omega (arith, c.requires.3, present_held c.args.held c.args.last c.if-last-ne0.false, c.copy_from_slice.ensures.len)

pub returns-then-held-ne0 : goal.returns-then-held-ne0
returns-then-held-ne0 c =
    let a = c.args in
    c.copy_in-then-held-ne0.ensures
    ∙ (rw (chosen_table a.file.now a.table.now a.held a.last a.o c.if-last-ne0.false c.if-held-ne0.true, c.copy_from_slice.ensures.after, part_width 220 a.table.now (a.o * 220)))

pub returns-else-held-ne0 : goal.returns-else-held-ne0
returns-else-held-ne0 c =
    let a = c.args in
    rw (chosen_none a.file.now a.table.now a.held a.last a.o c.if-last-ne0.false c.if-held-ne0.false) (spliced_none a.table.now (a.p * 220))
