-- `writing::put_new`: the mark stands behind the place. Assumes nothing.
use Rattle.journal.proofs.WritingLaws.{length_new, new_inside, wrote_new}
use native.Mathlib.Omega.{arith}
use Rattle.journal.proofs.writing.put_new.Goals as goal

pub put_number-i-requires : goal.put_number-i-requires
put_number-i-requires c = omega (arith, length_new c.args.place, c.requires)

pub bounds-journal-i : goal.bounds-journal-i
bounds-journal-i c =
    let a = c.args in
    new_inside a.journal.now _ a.at a.place _ c.put_number-i.ensures.0 c.put_number-i.ensures.1 c.requires

pub overflow_add-result : goal.overflow_add-result
overflow_add-result c =
    let a = c.args in
    omega (arith, new_inside a.journal.now _ a.at a.place _ c.put_number-i.ensures.0 c.put_number-i.ensures.1 c.requires)

pub returns : goal.returns
returns c =
    let a = c.args in
    wrote_new a.journal.now _ a.at a.place _ c.put_number-i.ensures.0 c.put_number-i.ensures.1 c.requires
