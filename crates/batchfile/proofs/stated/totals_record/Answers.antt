-- `stated::totals_record`: the fields are put into a blank record one behind the other. Assumes nothing.
use mathlib.Core.Path.{refl}
use Rattle.text.proofs.ColumnsWritten.{written_all}
use Rattle.batchfile.specs.Stated.{totals_in}
use Rattle.batchfile.proofs.StatedLaws.{control-written}
use Rattle.batchfile.proofs.stated.totals_record.Goals as goal

pub returns : goal.returns
returns c =
    let a = c.args in
    written_all
    (control-written a.state.now (totals_in a.t) c.requires _ _ _ _ _ _ c.put.ensures c.put-2.ensures c.put_number.ensures
    c.put_number-2.ensures c.put_number-3.ensures c.put_number-4.ensures)
    refl
