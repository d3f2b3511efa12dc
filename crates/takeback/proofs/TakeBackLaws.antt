-- Laws of taking a batch back: its refusals, and what is left. Assumes nothing.
use Prim.Native.Nat.{ℕ, zero, ◌+◌, ◌*◌, ◌≤◌, ◌<◌}
use mathlib.Core.Path.{◌≡◌, refl, sym, ◌∙◌}
use mathlib.Core.Bool.{Bool, true, false, not, ◌&&◌}
use mathlib.Core.List.{List, [], ◌∷◌}
use mathlib.Core.Option.{Option, none, some}
use native.Mathlib.Omega.{arith}
use lib.Dec.{ltb, eqb}
use lib.ListN.{length, drop}
use borrow.Author.Tests.{ltb-true, lt-ltb, eqb-true}
use Rattle.answers.specs.Refusal.{refusal_number_of}
use Rattle.answers.specs.declared.refusal.Refusal.{Refusal}
use Rattle.answers.proofs.AnswerLaws.{outcome_done}
use Rattle.answers.proofs.RefusalLaws.{outcome_err}
use Rattle.std.specs.Prelude.{Ok, Err}
use Rattle.answers.specs.Answer.{refuse_if}
use Rattle.text.specs.Blocks.{joined, over}
use Rattle.text.proofs.FieldsLaws.{and_left, and_right}
use Rattle.text.proofs.BoolLaws.{and_both}
use Rattle.text.proofs.BlocksLaws.{holds_over, length-blocks}
use Rattle.layout.specs.Limits.{max_rows}
use Rattle.layout.proofs.LimitsLaws.{max_rows_lem}
use Rattle.casemaster.specs.Master.{rows_of, are_sound_rows}
use Rattle.casemaster.specs.Refusals.{refusal3, refusal4, master_refusal}
use Rattle.casemaster.proofs.RefusalsLaws.{master_passed, master_err, master_rows, master_limit}
use Rattle.journal.specs.Journal.{Entry, Journal, journal, entries_in, journal_in}
use Rattle.takeback.specs.Restored.{places_rise, places_below, new_marks, restored_from, restored, fits, can_take_back}
use Rattle.journal.specs.Reading.{reach}
use Rattle.takeback.specs.Testing.{CountsRead, IsCounts}
use Rattle.takeback.specs.Restoring.{CanRestore, AllRestored}
use Rattle.takeback.specs.TakeBack.{taken_as, refusal26, take_back_refusal, take_back_run, take_back_outcome}
use Rattle.std.specs.Prelude.{Option as CodeOption, None, Some, IsSome}
use Rattle.takeback.specs.declared.testing.Counts.{Counts}

-- ---- the refusals

-- so few rows as the code's limit can be counted in four groups
pub few_rows : max_rows < reach
few_rows = omega (arith, max_rows_lem)

module _ (limit : ℕ) (master : List ℕ) (rows : ℕ) where
  pub in_reach : limit < reach → master_refusal limit master rows 0 ≡ 0 → rows < reach
  in_reach l e = omega (arith, master_limit limit master rows e)

  pub rows_inside : master_refusal limit master rows 0 ≡ 0 → rows * 200 ≤ length master
  rows_inside e = omega (arith, master_rows limit master rows e)

  module _ (bytes : List ℕ) where
    pub refused_master : (r : Refusal) → refusal_number_of r ≡ master_refusal limit master rows 0
        → refusal_number_of r ≡ take_back_refusal limit master rows bytes
    unfolding take_back_refusal
    refused_master r e = master_err limit master rows r e (refuse_if (refusal26 master rows bytes) 26 0)

    pub refusal_none : master_refusal limit master rows 0 ≡ 0 → (t : Bool) → t ≡ can_take_back (journal_in bytes) (rows_of rows master) → t ≡ true
        → 0 ≡ take_back_refusal limit master rows bytes
    unfolding take_back_refusal refusal26
    refusal_none e t f g = sym (master_passed limit master rows e (refuse_if (refusal26 master rows bytes) 26 0) ∙ rw (← f, g))

    pub refusal_26 : master_refusal limit master rows 0 ≡ 0 → (t : Bool) → t ≡ can_take_back (journal_in bytes) (rows_of rows master) → t ≡ false
        → 26 ≡ take_back_refusal limit master rows bytes
    unfolding take_back_refusal refusal26
    refusal_26 e t f g = sym (master_passed limit master rows e (refuse_if (refusal26 master rows bytes) 26 0) ∙ rw (← f, g))

    pub no_refusal : take_back_refusal limit master rows bytes ≡ 0 → (master_refusal limit master rows 0 ≡ 0) × (can_take_back (journal_in bytes) (rows_of rows master) ≡ true)
    unfolding take_back_refusal refusal26 master_refusal
    no_refusal e = go (refusal3 limit master rows) (refusal4 master rows) (can_take_back (journal_in bytes) (rows_of rows master)) e
      where
        go : (a b t : Bool) → refuse_if a 3 (refuse_if b 4 (refuse_if (not t) 26 0)) ≡ 0 → (refuse_if a 3 (refuse_if b 4 0) ≡ 0) × (t ≡ true)
        go true b t e = absurd (omega arith)
        go false true t e = absurd (omega arith)
        go false false false e = absurd (omega arith)
        go false false true e = (refl, refl)

    pub take_refused : (r : Refusal) → refusal_number_of r ≡ take_back_refusal limit master rows bytes
        → taken_as (Err r) master ≡ take_back_outcome limit master rows bytes
    unfolding take_back_outcome
    take_refused = outcome_err (take_back_refusal limit master rows bytes) master (take_back_run (journal_in bytes) master rows)

-- ---- carried out

places_below_more : (a b : ℕ) (es : List Entry) → a ≤ b → places_below a es ≡ true → places_below b es ≡ true
unfolding places_below
places_below_more a b [] h t = refl
places_below_more a b (e ∷ es) h t =
    let l = ltb-true e.place a (and_left (ltb e.place a) (places_below a es) t) in
    and_both (ltb e.place b) (places_below b es) (lt-ltb e.place b (omega arith)) (places_below_more a b es h (and_right (ltb e.place a) (places_below a es) t))

-- what is known of a journal that can be taken
pub record Ready (bytes : List ℕ) (c : Counts) : Type 0 where
  pub can : CanRestore bytes c.at 0
  pub is : journal_in bytes ≡ some (journal c.before c.after can.entries)
  pub inside : c.at ≤ length bytes

taken_tests : (j : Journal) (rows : List (List ℕ)) → can_take_back (some j) rows ≡ true
    → (j.after ≡ length rows) × (places_below j.after j.entries ≡ true) × (places_rise zero j.entries ≡ true)
unfolding can_take_back fits
taken_tests j rows t =
    let more : Bool = places_rise zero j.entries && are_sound_rows (restored j rows) in
    let count : Bool = eqb (j.before + new_marks j.entries) j.after in
    let f = and_left (fits j (length rows)) more t in
    let g = and_right (eqb j.after (length rows)) (places_below j.after j.entries && count) f in (
      eqb-true j.after (length rows) (and_left (eqb j.after (length rows)) (places_below j.after j.entries && count) f),
      and_left (places_below j.after j.entries) count g,
      and_left (places_rise zero j.entries) (are_sound_rows (restored j rows)) (and_right (fits j (length rows)) more t),
    )

false_true : {A : Type 0} → false ≡ true → A
false_true e = absurd (let z : ◌≡◌ {A = ℕ} 0 1 = cc in omega arith)

module _ (bytes : List ℕ) (rows : List (List ℕ)) (few : length rows < reach) (t : can_take_back (journal_in bytes) rows ≡ true) where
  -- the counts are there
  pub has_counts : (o : CodeOption Counts) → IsCounts bytes o → IsSome o
  has_counts None i = false_true (sym (i rows few) ∙ t)
  has_counts (Some c) i = refl

  pub ready : (c : Counts) → CountsRead bytes c.before c.after c.at → Ready bytes c
  unfolding can_take_back
  ready c i = entries i (entries_in (drop c.at bytes)) refl
    where
      entries : CountsRead bytes c.before c.after c.at → (o : Option (List Entry)) → entries_in (drop c.at bytes) ≡ o → Ready bytes c
      entries k none e = false_true (rw (k.is, e) at t)
      entries k (some es) e =
          let j = journal c.before c.after es in
          let f : journal_in bytes ≡ some j = k.is ∙ rw e in
          let u = taken_tests j rows (rw f at t) in
          record {
            can = record { entries = es; are = e; rise = u.2; below = places_below_more c.after reach es (omega (arith, u.0)) u.1 };
            is = f;
            inside = k.inside;
          }

module _ (limit : ℕ) (l : limit < reach) (master : List ℕ) (rows : ℕ) (bytes : List ℕ) (e : take_back_refusal limit master rows bytes ≡ 0) where
  pub counts_known : (o : CodeOption Counts) → IsCounts bytes o → IsSome o
  counts_known =
      let k = no_refusal limit master rows bytes e in
      has_counts bytes (rows_of rows master) (rw (length-blocks 200 rows master) (in_reach limit master rows l k.0)) k.1

  pub known : (c : Counts) → CountsRead bytes c.before c.after c.at → Ready bytes c
  known =
      let k = no_refusal limit master rows bytes e in
      ready bytes (rows_of rows master) (rw (length-blocks 200 rows master) (in_reach limit master rows l k.0)) k.1

  pub take_done : (c : Counts) → CountsRead bytes c.before c.after c.at → (after : List ℕ) (count : ℕ) → ((q : CanRestore bytes c.at 0) → AllRestored master rows after count q.entries)
      → taken_as (Ok c.before) after ≡ take_back_outcome limit master rows bytes
  unfolding take_back_outcome
  take_done c i after count f =
      let k = known c i in
      let g = f k.can in
      let inside = rows_inside limit master rows (no_refusal limit master rows bytes e).0 in
      let m : after ≡ over (joined (restored_from 0 k.can.entries (rows_of rows master))) master =
      holds_over 200 master after count (restored_from 0 k.can.entries (rows_of rows master)) (record { blocks_are = g.rows_are; rest_kept = g.rest_kept })
      (omega (arith, g.same_length, g.few)) in
      rw (m, k.is)
      (outcome_done (take_back_refusal limit master rows bytes) master (take_back_run (some (journal c.before c.after k.can.entries)) master rows) e)
