-- `changes::change` meets its contract: what is no other type's is Z's. Assumes nothing.
use Rattle.std.proofs.Common.{rules}
use Rattle.onecase.proofs.ChangedLaws.{changed_by}
use Rattle.onecase.proofs.changes.change.Goals as goal
use Rattle.onecase.proofs.changes.change.Goals.{in-Some+in-Address-1, in-None-1}

pub returns-in-Some-Address : goal.returns-in-Some-Address
returns-in-Some-Address c =
    rw (c.readdress.ensures, changed_by c.args.rec.now c.args.row.now _ c.type_of.ensures)
    (elim c.in-Some-Address-1.branch [
      | in-Some+in-Address-1 w ↦ search rules
      | in-None-1 w ↦ search rules
    ])
