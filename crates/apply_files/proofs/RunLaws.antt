-- Laws of the run: what the call is lent of the master's buffer, and what comes back. Assumes nothing.
use mathlib.Core.Path.{◌≡◌, refl, ap}
use mathlib.Core.Bool.{Bool, true, false, cond, ◌||◌}
use mathlib.Core.List.{List, ◌++◌}
use Prim.Native.Nat.{ℕ, ◌/◌, ◌%◌, ◌≤◌}
use native.Mathlib.Omega.{arith}
use lib.Dec.{eqb}
use lib.ListN.{take, drop}
use borrow.Author.Tests.{ltb-false}
use Rattle.std.specs.Prelude.{Result}
use Rattle.answers.specs.declared.refusal.Refusal.{Refusal}
use Rattle.batch.specs.declared.apply.Applied.{Applied}
use Rattle.batch.specs.Apply.{applied_as, apply_outcome}
use Rattle.std.specs.Prelude.{Some, None}
use Rattle.std.specs.Prelude as Code
use Rattle.apply_files.specs.Limits.{master_space, size_of, refusal0}
use Rattle.apply_files.specs.Run.{length_in, lent_length, with_rest, year_outcome}
use Rattle.batch.specs.Call.{call_of}

-- never more than the 200 rows
pub lent_bound : (n : ℕ) → n ≤ 40000 → lent_length n ≤ 40000
unfolding lent_length
lent_bound n h = go (eqb (n % 200) 0)
  where
    go : (t : Bool) → cond t master_space n ≤ 40000
    go true = omega arith
    go false = h

-- the call's outcome, with the rest of the buffer behind it
pub with_rest_lem : (answer : Result Applied Refusal) (master lent : List ℕ) (e n : ℕ) (batch locals : List ℕ) (year : ℕ) (verdicts rejects v' r' : List ℕ)
    → e ≡ lent_length n → applied_as answer lent v' r' ≡ apply_outcome (call_of (take e master) (n / 200) batch locals year verdicts rejects)
    → applied_as answer (lent ++ drop e master) v' r' ≡ year_outcome master n batch locals year verdicts rejects
unfolding year_outcome
with_rest_lem answer master lent e n batch locals year verdicts rejects v' r' l is = rw (← l) (ap (with_rest (drop e master)) is)

-- what isn't refused fits: a master.bin within the 200 rows
pub in_space : (m b l y : Code.Option ℕ) → refusal0 (size_of m) (size_of b) (size_of l) (size_of y) ≡ false → length_in m ≤ 40000
unfolding refusal0
in_space None b l y e = omega arith
in_space (Some n) b l y e = ltb-false 40000 n (or_left _ _ e)
  where
    or_left : (p q : Bool) → (p || q) ≡ false → p ≡ false
    or_left true q h = h
    or_left false q h = refl
