-- `rejects::name_columns`: each answer of the machine is a case of its own, and only the third has a name. Assumes nothing.
use mathlib.Core.Path.{sym, ap}
use Rattle.rejectfile.specs.Rejects.{four_columns}
use Rattle.onecase.specs.Verdict.{meaning}
use Rattle.onecase.specs.declared.verdict.Verdict.{Verdict}
use Rattle.rejectfile.proofs.rejects.name_columns.Goals as goal

pub returns-in-Accepted : goal.returns-in-Accepted
returns-in-Accepted c = sym (ap (λ (v : Verdict). four_columns (meaning v).name) c.in-Accepted.is)

pub returns-in-Rejected : goal.returns-in-Rejected
returns-in-Rejected c = sym (ap (λ (v : Verdict). four_columns (meaning v).name) c.in-Rejected.is)

pub returns-in-RejectedWithName : goal.returns-in-RejectedWithName
returns-in-RejectedWithName c = sym (ap (λ (v : Verdict). four_columns (meaning v).name) c.in-RejectedWithName.is)
