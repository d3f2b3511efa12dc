-- Details in key order and new keys counted are details arranged. Assumes nothing.
use Prim.Native.Nat.{ℕ, ◌≤◌}
use mathlib.Core.Path.{◌≡◌}
use mathlib.Core.List.{List}
use native.Mathlib.Omega.{arith}
use lib.ListN.{length}
use Rattle.text.specs.Blocks.{blocks}
use Rattle.layout.specs.Batch.{detail_count}
use Rattle.casemaster.specs.Master.{rows_of}
use Rattle.keyorder.specs.Runs.{DetailsOrdered}
use Rattle.keywalk.specs.Walking.{OrderReady, UnderOrder, fixed_of, new_own_keys}
use Rattle.keywalk.proofs.WorkLaws.{order_ready}
use Rattle.batch.specs.Parts.{ArrangeReady, DetailsArranged}

module _ (state : List ℕ) (year : ℕ) (list batch master : List ℕ) (n : ℕ) (numbers : List ℕ) (r : ArrangeReady master n batch state numbers) (numbers₁ : List ℕ) (own : ℕ)
    (x : DetailsOrdered state year list (blocks 245 (detail_count batch) batch) (detail_count batch) numbers numbers₁ own) where
  ordered : OrderReady state year list batch (detail_count batch) own numbers₁
  ordered =
      order_ready state year list batch (detail_count batch) numbers numbers₁ own (omega (arith, r.batch_in)) r.slots x.order x.own_end

  pub own_in : own ≤ length numbers₁
  own_in = omega (arith, ordered.own_end.within, ordered.numbered)

  pub arranged : (new : ℕ)
      → UnderOrder state own numbers₁ (λ batch year list. new ≡ new_own_keys (fixed_of state year list batch own n) numbers₁ (rows_of n master))
      → DetailsArranged (fixed_of state year list batch own n) master numbers numbers₁ new
  arranged new e = record { ordered = ordered; new_is = e batch year list ordered; kept = x.order.kept }
