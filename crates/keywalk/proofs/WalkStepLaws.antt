-- The steps of the walk put together: what the work on one key leaves in the buffers. Assumes nothing.
use Prim.Native.Nat.{ℕ, ◌+◌, ◌*◌, ◌≤◌}
use mathlib.Core.Path.{◌≡◌, refl, sym, ap, ◌∙◌, subst}
use mathlib.Core.Bool.{Bool, true, false, not, cond, ◌&&◌, false≢true, true≢false}
use mathlib.Core.List.{List, ◌++◌, append-nil}
use mathlib.Core.Option.{Option, none, some}
use native.Mathlib.Omega.{arith}
use borrow.Author.Tests.{ltb-true}
use lib.Dec.{ltb}
use lib.ListN.{length, take}
use Rattle.text.specs.Options.{one_or_none}
use Rattle.text.specs.Fields.{same_bytes}
use Rattle.casemaster.specs.Master.{rows_of, row_in}
use Rattle.casemaster.specs.Search.{AreBelow, RowPut, Pulled}
use Rattle.text.proofs.FieldsLaws.{and_left}
use Rattle.keyorder.specs.Runs.{IsRun, RunFound}
use Rattle.keyorder.specs.declared.runs.Run.{Run}
use Rattle.keywork.specs.Worked.{RunWorked}
use Rattle.keywalk.specs.Walking.{rank_key, is_row_of, RowOfPut, Fixed, Stand, key_now, has_row, row_now, setting_now, run_makes, KeyCounted, KeyWorked, KeyWalked, StaysBefore}
use Rattle.keywalk.specs.declared.counting.Count.{Count}
use Rattle.text.proofs.BlocksLaws.{kept_further}
use Rattle.judging.specs.State.{row_if}

-- ---- a row written, or none

module _ (m : List ℕ) (p : ℕ) (row m' : List ℕ) where
  pub row_put : RowPut m p row m' → RowOfPut m p (some row) m' (p + 1)
  row_put r = record { next_is = refl; rows_are = r.rows_are; rest_kept = r.rest_kept }

pub none_put : (m : List ℕ) (p : ℕ) → RowOfPut m p none m p
none_put m p =
    record { next_is = omega arith; rows_are = sym (append-nil (rows_of p m)); rest_kept = refl }

-- ---- one key

-- the steps of one key: its details end at e, the rows below it are passed and pulled down, and its details are worked from the row there
pub record KeySteps (f : Fixed) (s : Stand) (e passed : ℕ) (key m₁ : List ℕ) (held : Bool) (start row : Option (List ℕ)) (numbers' : List ℕ) : Type 0 where
  pub ended : IsRun s.numbers s.position f.own e
  pub key_is : key ≡ key_now f s
  pub below : AreBelow s.master s.from f.end key passed
  pub pulled : Pulled s.master s.from s.to passed m₁
  pub looked : held ≡ is_row_of m₁ (s.from + passed) f.end key
  pub started : start ≡ row_if held (row_in m₁ (s.from + passed))
  pub run : RunWorked (setting_now f s e) f.batch s.position e start row s.numbers numbers'

module _ (f : Fixed) (s : Stand) (e passed : ℕ) (key m₁ : List ℕ) (held : Bool) (start row : Option (List ℕ)) (numbers' : List ℕ)
    (k : KeySteps f s e passed key m₁ held start row numbers') where
  -- the rows to come are as before
  pub held_is : held ≡ has_row f s passed
  held_is =
      k.looked ∙ ap (λ (x : List ℕ). ltb (s.from + passed) f.end && same_bytes (take 12 x) key) k.pulled.rest_kept
      ∙ ap (is_row_of s.master (s.from + passed) f.end) k.key_is

  pub start_is : start ≡ row_now f s passed
  start_is =
      k.started ∙ ap (λ (t : Bool). row_if t (row_in m₁ (s.from + passed))) held_is
      ∙ ap (λ (x : List ℕ). row_if (has_row f s passed) (take 200 x)) k.pulled.rest_kept

  pub key_worked : KeyWorked f s e passed row numbers'
  key_worked =
      record {
        ended = k.ended;
        below = subst (λ (x : List ℕ). AreBelow s.master s.from f.end x passed) k.key_is k.below;
        run = subst (λ (x : Option (List ℕ)). RunWorked (setting_now f s e) f.batch s.position e x row s.numbers numbers') start_is k.run;
      }

  module _ (stays : StaysBefore f s) where
    pub stays_before : s.to + length (one_or_none row) ≤ s.from + cond held 1 0
    stays_before =
        subst (λ (t : Bool). s.to + length (one_or_none row) ≤ s.from + cond t 1 0) (sym held_is) (stays e passed row numbers' key_worked)

    held_in_lem : s.from + passed + cond held 1 0 ≤ f.end
    held_in_lem = go held k.looked
      where
        go : (t : Bool) → t ≡ is_row_of m₁ (s.from + passed) f.end key → s.from + passed + cond t 1 0 ≤ f.end
        go false x = omega (arith, k.below.within)
        go true x =
            let a = ltb-true (s.from + passed) f.end (and_left (ltb (s.from + passed) f.end) _ (sym x)) in
            omega (arith, a)

    -- the key's row has room in the buffer
    pub put_room : f.end * 200 ≤ length s.master → (s.to + passed + length (one_or_none row)) * 200 ≤ length m₁
    put_room l = omega (arith, stays_before, held_in_lem, k.pulled.same_length)

    unfoldable pub key_walked : (m₂ : List ℕ) (next : ℕ) → RowOfPut m₁ (s.to + passed) row m₂ next → (one : ℕ) → one ≡ cond held 1 0
        → KeyWalked f s (record { position = e; from = s.from + passed + one; to = next; master = m₂; numbers = numbers' })
    key_walked m₂ next put one oi =
        record {
          passed = passed;
          row = row;
          worked = key_worked;
          from_is = ap (λ (x : ℕ). s.from + passed + x) (oi ∙ ap (λ (t : Bool). cond t 1 0) held_is);
          to_is = put.next_is;
          rows_are = put.rows_are ∙ ap (λ (x : List (List ℕ)). x ++ one_or_none row) k.pulled.rows_are;
          rest_kept =
              kept_further m₂ m₁ (next * 200) ((s.from + passed + one) * 200) (omega (arith, put.next_is, stays_before, oi)) put.rest_kept
              ∙ kept_further m₁ s.master ((s.from + passed) * 200) ((s.from + passed + one) * 200) (omega arith) k.pulled.rest_kept;
        }

-- ---- one key counted

module _ (state : List ℕ) (own end : ℕ) (m numbers : List ℕ) (s : Count) (r : Run) (found : RunFound numbers s.position own r) where
  -- none of its details makes a row
  pub counted_idle : r.makes ≡ false → KeyCounted state own end m numbers s (record { position = r.end; from = s.from; new = s.new })
  counted_idle e =
      let x : run_makes numbers s.position r.end ≡ false = sym found.makes_is ∙ e in
      record {
        passed = 0;
        ended = found.run;
        below = λ t. absurd (false≢true (sym x ∙ t));
        idle = λ t. refl;
        from_is = omega arith;
        new_is = rw x (omega arith);
      }

  -- one of them does
  pub counted_new : r.makes ≡ true → (key : List ℕ) (passed one : ℕ) → key ≡ rank_key state numbers s.position → AreBelow m s.from end key passed
      → one ≡ cond (not (is_row_of m (s.from + passed) end key)) 1 0
      → KeyCounted state own end m numbers s (record { position = r.end; from = s.from + passed; new = s.new + one })
  counted_new e key passed one ki ab oi =
      let x : run_makes numbers s.position r.end ≡ true = sym found.makes_is ∙ e in
      record {
        passed = passed;
        ended = found.run;
        below = λ t. subst (λ (k : List ℕ). AreBelow m s.from end k passed) ki ab;
        idle = λ t. absurd (false≢true (sym t ∙ x));
        from_is = refl;
        new_is = rw x (ap (λ (n : ℕ). s.new + n) (oi ∙ ap (λ (k : List ℕ). cond (not (is_row_of m (s.from + passed) end k)) 1 0) ki));
      }

-- a row that has a key is there
pub row_there : (m key : List ℕ) (at end : ℕ) (held : Bool) → held ≡ is_row_of m at end key → end * 200 ≤ length m → held ≡ true
    → at * 200 + 200 ≤ length m
row_there m key at end held f l t =
    let a = ltb-true at end (and_left (ltb at end) _ (sym f ∙ t)) in
    omega (arith, a)

pub row_room : (p : ℕ) (row : List ℕ) (l : ℕ) → (p + length (one_or_none (some row))) * 200 ≤ l → p * 200 + 200 ≤ l
row_room p row l h = omega (arith, h)
