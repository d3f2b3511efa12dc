-- For the contracts of inner functions; no rule of the papers stands here.
-- The set in each answer of the machine's step. Assumes nothing.
use Rattle.std.specs.Prelude.{ℕ}
use Rattle.onecase.specs.declared.verdict.Verdict.{Verdict}
use Rattle.onecase.specs.declared.verdict.Verdict.TheVariants.{Accepted, Rejected, RejectedWithName}

abbrev pub set_in : Verdict → ℕ
set_in (Accepted set) = set
set_in (Rejected set) = set
set_in (RejectedWithName set name) = set
