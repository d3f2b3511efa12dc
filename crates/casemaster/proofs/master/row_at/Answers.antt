-- `master::row_at` meets its contract: the array at p of the master's is the row. Assumes nothing.
use mathlib.Core.List.{List, []}
use mathlib.Core.Path.{ap, ◌∙◌}
use Prim.Native.Nat.{ℕ}
use lib.ListN.{get_or}
use Rattle.casemaster.proofs.PassLaws.{chunk_at}
use Rattle.casemaster.proofs.master.row_at.Goals as goal

pub returns : goal.returns
returns c = ap (λ (z : List (List ℕ)). get_or z c.args.p []) c.as_chunks.ensures.front ∙ chunk_at c.args.m.now c.args.p [] c.requires
