-- `writing::put_old`: the mark stands behind the place, and the old row behind the mark. Assumes nothing.
use Rattle.journal.proofs.WritingLaws.{length_old, old_inside, wrote_old}
use native.Mathlib.Omega.{arith}
use mathlib.Core.Path.{◌≡◌}
use lib.ListN.{length, length-set}
use borrow.Author.Rules.{rules}
use Rattle.journal.proofs.writing.put_old.Goals as goal

pub put_number-i-requires : goal.put_number-i-requires
put_number-i-requires c = omega (arith, length_old c.args.place c.args.row, c.requires)

pub bounds-journal-i : goal.bounds-journal-i
bounds-journal-i c =
    let a = c.args in
    omega (arith, old_inside a.journal.now _ a.at a.place _ c.put_number-i.ensures.0 c.put_number-i.ensures.1 a.row c.requires)

pub overflow_add-i : goal.overflow_add-i
overflow_add-i c =
    let a = c.args in
    omega (arith, old_inside a.journal.now _ a.at a.place _ c.put_number-i.ensures.0 c.put_number-i.ensures.1 a.row c.requires)

pub copy_in-requires : goal.copy_in-requires
copy_in-requires c =
    let a = c.args in
    let o = old_inside a.journal.now _ a.at a.place _ c.put_number-i.ensures.0 c.put_number-i.ensures.1 a.row c.requires in
    simp length-set (omega (arith, o))

pub overflow_add-result : goal.overflow_add-result
overflow_add-result c =
    let a = c.args in
    let n : length a.row ≡ 200 = search rules in
    omega (arith, n, old_inside a.journal.now _ a.at a.place _ c.put_number-i.ensures.0 c.put_number-i.ensures.1 a.row c.requires)

pub shape_of-journal : goal.shape_of-journal
shape_of-journal c = omega (arith, c.copy_in.auto.dst, c.put_number-i.auto.out, length-set c.put_number-i.new.out c.put_number-i.result 1)

pub returns : goal.returns
returns c =
    let a = c.args in
    let n : length a.row ≡ 200 = search rules in
    wrote_old a.journal.now _ a.at a.place _ c.put_number-i.ensures.0 c.put_number-i.ensures.1 a.row c.requires n _ c.copy_in.ensures
