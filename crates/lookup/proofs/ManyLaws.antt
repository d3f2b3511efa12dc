-- Laws of a list of keys, and of the outcome of many look-ups: each refusal, where those before it don't hold, and the call carried out.
-- Assumes nothing.
use Prim.Native.Nat.{ℕ, ◌/◌, ◌%◌, ◌≤◌, ◌<◌}
use mathlib.Core.Path.{◌≡◌, sym, ap, ◌∙◌}
use mathlib.Core.Bool.{true, false, ◌&&◌}
use mathlib.Core.List.{List, ◌++◌}
use native.Mathlib.Omega.{arith}
use Rattle.std.specs.Prelude.{Ok, Err}
use lib.ListN.{length, take, drop, take-append-drop}
use lib.Seq.{length-take-le}
use borrow.Author.Tests.{eq-eqb, lt-ltb, le-ltb}
use Rattle.answers.specs.Refusal.{refusal_number_of}
use Rattle.answers.specs.declared.refusal.Refusal.{Refusal}
use Rattle.answers.specs.declared.refusal.Refusal.TheVariants.{WrongKeys, ShortPlaces}
use Rattle.answers.proofs.AnswerLaws.{outcome_done}
use Rattle.answers.proofs.RefusalLaws.{outcome_err}
use Rattle.text.specs.Fields.{every}
use Rattle.text.specs.Blocks.{over}
use Rattle.text.specs.ByteOrder.{rising}
use Rattle.layout.specs.Key.{is_sound_key}
use Rattle.casemaster.specs.Refusals.{master_refusal}
use Rattle.casemaster.proofs.RefusalsLaws.{master_passed, master_refused, master_err}
use Rattle.lookup.specs.Many.{keys_in, are_keys, LookedUp, whole_walk, many_refusal, ManyOutcome, many_as, many_run, many_outcome}
use Rattle.lookup.specs.Steps.{HasWalked}

-- whole keys pass where each is sound and they rise
pub keys_told : (keys : List ℕ) → length keys % 12 ≡ 0 → are_keys keys ≡ (every is_sound_key (keys_in keys) && rising (keys_in keys))
unfolding are_keys
keys_told keys h = rw (eq-eqb (length keys % 12) 0 h)

module _ (limit : ℕ) (master : List ℕ) (rows : ℕ) (keys places : List ℕ) where
  abbrev refusal : ℕ
  refusal = many_refusal limit master rows keys places

  abbrev outcome : ManyOutcome
  outcome = many_outcome limit master rows keys places

  -- ---- the first refusal that holds

  pub refused_master : (master_refusal limit master rows 0 ≡ 0 → ⊥) → refusal ≡ master_refusal limit master rows 0
  unfolding many_refusal
  refused_master h = master_refused limit master rows h _

  module _ (e : master_refusal limit master rows 0 ≡ 0) where
    pub refused_27 : are_keys keys ≡ false → refusal ≡ 27
    unfolding many_refusal
    refused_27 t = master_passed limit master rows e _ ∙ rw t

    pub refused_28 : are_keys keys ≡ true → length places < length keys / 12 → refusal ≡ 28
    unfolding many_refusal
    refused_28 t l = master_passed limit master rows e _ ∙ rw (t, lt-ltb (length places) (length keys / 12) l)

  -- ---- the outcome

  many_err : (r : Refusal) → refusal_number_of r ≡ refusal → many_as (Err r) places ≡ outcome
  unfolding many_outcome
  many_err = outcome_err refusal places (many_run master rows keys places)

  pub many_master : (r : Refusal) → refusal_number_of r ≡ master_refusal limit master rows 0 → many_as (Err r) places ≡ outcome
  unfolding many_refusal
  many_master r e = many_err r (master_err limit master rows r e _)

  module _ (z : 0 ≡ master_refusal limit master rows 0) where
    pub many_27 : false ≡ are_keys keys → many_as (Err WrongKeys) places ≡ outcome
    many_27 t = many_err WrongKeys (sym (refused_27 (sym z) (sym t)))

    module _ (t : true ≡ are_keys keys) where
      pub many_28 : length places < length keys / 12 → many_as (Err ShortPlaces) places ≡ outcome
      many_28 l = many_err ShortPlaces (sym (refused_28 (sym z) (sym t) l))

      pub many_done : (after : List ℕ) (comparisons : ℕ) → length keys / 12 ≤ length places
          → HasWalked master rows keys (length keys / 12) places after comparisons → many_as (Ok comparisons) after ≡ outcome
      unfolding many_outcome many_refusal over
      many_done after comparisons l w =
          let k = length keys / 12 in
          let p : refusal ≡ 0 = master_passed limit master rows (sym z) _ ∙ rw (← t, le-ltb (length places) k l) in
          let a : (whole_walk master rows keys).answers ≡ take k after = ap (λ (z : LookedUp). z.answers) (sym w.walked) in
          let n : (whole_walk master rows keys).comparisons ≡ comparisons = ap (λ (z : LookedUp). z.comparisons) (sym w.walked) in
          let d : take k after ++ drop k places ≡ after = ap (λ (z : List ℕ). take k after ++ z) (sym w.rest_kept) ∙ take-append-drop k after in
          let b : over (whole_walk master rows keys).answers places ≡ after = rw (a, length-take-le k after (omega (arith, w.same_length)), d) in
          rw (← n, ← b) (outcome_done refusal places (many_run master rows keys places) p)
