-- `convert::add_cents` meets its contract: the refusals, then the rows. Assumes nothing.
use mathlib.Core.Path.{sym}
use Rattle.std.proofs.lemmas.Result.{err_from_is_err_and}
use Rattle.layout.specs.Limits.{max_rows}
use Rattle.addcents.proofs.ConvertLaws.{convert_refused, rows_inside, convert_done}
use Rattle.addcents.proofs.convert.add_cents.Goals as goal

pub returns-in_err-old_master_refusal : goal.returns-in_err-old_master_refusal
returns-in_err-old_master_refusal c =
    let p = err_from_is_err_and c.from_residual.result c.from_residual.ensures.1 in
    rw (p.1, p.2) (convert_refused max_rows c.args.master.now c.args.rows _ c.in_err-old_master_refusal.ensures)

pub zero_all-requires : goal.zero_all-requires
zero_all-requires c = rows_inside max_rows c.args.master.now c.args.rows (sym c.in_ok-old_master_refusal.ensures)

pub returns : goal.returns
returns c =
    convert_done max_rows c.args.master.now c.args.rows _ (sym c.in_ok-old_master_refusal.ensures) c.zero_all.ensures
