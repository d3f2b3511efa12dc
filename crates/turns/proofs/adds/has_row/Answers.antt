-- `adds::has_row`: the search says exactly whether the rows have one of that key, and another type than A never counts. Assumes nothing.
use mathlib.Core.List.{List}
use mathlib.Core.Path.{sym, ◌∙◌}
use Prim.Native.Nat.{ℕ, ◌*◌}
use lib.ListN.{take, drop}
use borrow.Author.Rules.{rules}
use borrow.Author.Tests.{not-true, not-false}
use Rattle.casemaster.specs.Master.{rows_of}
use Rattle.turns.proofs.NewLaws.{row_other, row_found, row_missing}
use Rattle.casemaster.proofs.RowsLaws.{rows_rise}
use Rattle.turns.proofs.adds.has_row.Goals as goal

pub is_add-requires : goal.is_add-requires
is_add-requires c = c.requires.2

pub returns-then-not-is_add : goal.returns-then-not-is_add
returns-then-not-is_add c =
    let a = c.args in
    row_other (rows_of a.n a.m.now) (take 245 (drop (a.i * 245) a.batch.now)) (sym c.is_add.ensures ∙ not-true _ c.if-not-is_add.true-raw)

pub key_at-key-requires : goal.key_at-key-requires
key_at-key-requires c = c.requires.2

pub place_of-requires : goal.place_of-requires
place_of-requires c =
    (c.requires.0, search rules, rows_rise (rows_of c.args.n c.args.m.now) c.requires.1)

pub returns-in-Ok : goal.returns-in-Ok
returns-in-Ok c =
    let a = c.args in
    let rec = take 245 (drop (a.i * 245) a.batch.now) in
    row_found (rows_of a.n a.m.now) rec (sym c.is_add.ensures ∙ not-false _ c.if-not-is_add.false-raw) _ (rw c.key_at-key.ensures at c.in-Ok.ensures)

pub returns-in-Err : goal.returns-in-Err
returns-in-Err c =
    let a = c.args in
    let rec = take 245 (drop (a.i * 245) a.batch.now) in
    let g = rw c.key_at-key.ensures at c.in-Err.ensures in
    row_missing (rows_of a.n a.m.now) rec (sym c.is_add.ensures ∙ not-false _ c.if-not-is_add.false-raw) g.missing
