-- `find::find`: each early answer is the first refusal that holds, and behind them the search's answer is the key's place or that it has
-- none. Assumes nothing.
use mathlib.Core.Path.{sym}
use native.Mathlib.Omega.{arith}
use Rattle.std.proofs.lemmas.Result.{err_from_is_err_and}
use Rattle.layout.specs.Limits.{max_rows}
use Rattle.casemaster.specs.Master.{rows_of}
use Rattle.layout.proofs.KeyLaws.{sound_length}
use Rattle.lookup.proofs.FindLaws.{find_refused, find_unsound, find_at, find_missing}
use Rattle.casemaster.proofs.RefusalsLaws.{master_rows, master_sound}
use Rattle.casemaster.proofs.RowsLaws.{rows_rise}
use Rattle.lookup.proofs.find.find.Goals as goal

pub returns-in_err-master_refusal : goal.returns-in_err-master_refusal
returns-in_err-master_refusal c =
    let p = err_from_is_err_and c.from_residual.result c.from_residual.ensures.1 in
    rw (p.1, p.2) (find_refused max_rows c.args.master.now c.args.rows c.args.key.now _ c.in_err-master_refusal.ensures)

pub returns-then-not-is_sound_key : goal.returns-then-not-is_sound_key
returns-then-not-is_sound_key c = find_unsound max_rows c.args.master.now c.args.rows c.args.key.now c.in_ok-master_refusal.ensures c.if-not-is_sound_key.ensures

pub place_of-requires : goal.place_of-requires
place_of-requires c =
    let z = sym c.in_ok-master_refusal.ensures in
    (omega (arith, master_rows max_rows c.args.master.now c.args.rows z), sound_length c.args.key.now (sym c.if-not-is_sound_key.ensures), rows_rise (rows_of c.args.rows c.args.master.now) (master_sound max_rows c.args.master.now c.args.rows z))

pub returns-in-Ok : goal.returns-in-Ok
returns-in-Ok c = find_at max_rows c.args.master.now c.args.rows c.args.key.now c.in_ok-master_refusal.ensures c.if-not-is_sound_key.ensures _ c.in-Ok.ensures

pub returns-in-Err : goal.returns-in-Err
returns-in-Err c = find_missing max_rows c.args.master.now c.args.rows c.args.key.now c.in_ok-master_refusal.ensures c.if-not-is_sound_key.ensures c.in-Err.ensures.missing
