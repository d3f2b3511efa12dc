use mathlib.Core.Path.{◌∙◌}
use native.Mathlib.Omega.{arith}
use Rattle.codepage.proofs.TablesLaws.{length_entries, entries_at}
use Rattle.codepage.proofs.FrontLaws.{front-next, front_all}
use Rattle.codepage.proofs.conversion.write_entries.Goals as goal

pub loop-i-preserved : goal.loop-i-preserved
loop-i-preserved c =
    let a = c.args in
    let l = c.loop-i in
    let n = length_entries a.table.now a.input.now in
    let e = entries_at a.table.now a.input.now l.i (omega arith) in
    rw (l.invariant, ← e) (front-next _ _ l.i (omega arith) (omega arith))

pub returns : goal.returns
returns c =
    let a = c.args in
    let l = c.loop-i in
    let n = length_entries a.table.now a.input.now in
    l.invariant ∙ front_all _ _ l.i (omega arith) ∙ rw n
