-- A batch carried out leaves sound rows, in which each key that had a row still has one: so its journal takes it back from every master that
-- has them. Assumes nothing.
use Prim.Native.Nat.{ℕ}
use mathlib.Core.Path.{refl, sym, ap, ◌∙◌}
use mathlib.Core.List.{List}
use Rattle.answers.specs.Answer.{done}
use Rattle.text.specs.Blocks.{joined, over}
use Rattle.journal.specs.Journal.{journal_of, journal_bytes}
use Rattle.takeback.proofs.TakesBackProof.{takes_back}
use Rattle.batch.specs.Apply.{row_count}
use Rattle.takingback.specs.TakenBack.{rows_at_entry, taken_back, EveryBatch, LeavesRows}
use Rattle.takingback.proofs.LeftLaws.{left_by_lem, own_passes, count_before}

pub every-batch : EveryBatch
every-batch c o i t master h =
    ap (λ (rows : List (List ℕ)). taken_back c o master (journal_bytes (journal_of (rows_at_entry c) rows))) (sym h.rows)
    ∙ takes_back c.limit (rows_at_entry c) master (row_count o.answer) (left_by_lem c o i t master h)
    ∙ ap (λ (n : ℕ). record { answer = done n; buffers = over (joined (rows_at_entry c)) master }) (count_before c o i t)

pub leaves_rows : LeavesRows
leaves_rows c o i t = record { rows = refl; passes_3 = own_passes c o i t }
