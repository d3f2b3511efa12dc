-- The answer of a search, by the refusals that come before it. Assumes nothing.
use Prim.Native.Nat.{ℕ}
use mathlib.Core.Path.{◌≡◌, sym, ap, ◌∙◌}
use mathlib.Core.Bool.{true, false}
use mathlib.Core.List.{List}
use mathlib.Core.Option.{none, some}
use Rattle.layout.specs.Key.{is_sound_key}
use Rattle.casemaster.specs.Master.{rows_of}
use Rattle.casemaster.specs.Rows.{place_with}
use Rattle.answers.specs.Answer.{refused, done}
use Rattle.answers.specs.Refusal.{refusal_number_of}
use Rattle.answers.specs.declared.refusal.Refusal.{Refusal}
use Rattle.answers.specs.declared.refusal.Refusal.TheVariants.{UnsoundKey, NoSuchRow}
use Rattle.answers.proofs.AnswerLaws.{answer_done}
use Rattle.answers.proofs.RefusalLaws.{answer_err}
use Rattle.lookup.specs.Find.{refusal14, find_refusal, place_found, find_answer}
use Rattle.casemaster.proofs.RefusalsLaws.{master_passed, master_err}
use Rattle.casemaster.specs.Refusals.{master_refusal}

module _ (limit : ℕ) (master : List ℕ) (rows : ℕ) (key : List ℕ) where
  abbrev refusal : ℕ
  refusal = find_refusal limit master rows key

  abbrev found : ℕ
  found = place_found (place_with key (rows_of rows master))

  pub find_refused : (r : Refusal) → refusal_number_of r ≡ master_refusal limit master rows 0
      → refused (refusal_number_of r) ≡ find_answer limit master rows key
  unfolding find_answer find_refusal
  find_refused r e = answer_err refusal found r (master_err limit master rows r e _)

  module _ (z : 0 ≡ master_refusal limit master rows 0) where
    passed : (behind : ℕ) → master_refusal limit master rows behind ≡ behind
    passed behind = master_passed limit master rows (sym z) behind

    pub find_unsound : false ≡ is_sound_key key → refused 14 ≡ find_answer limit master rows key
    unfolding find_answer find_refusal refusal14
    find_unsound k = answer_err refusal found UnsoundKey (sym (passed _ ∙ rw (← k)))

    pub find_at : true ≡ is_sound_key key → (p : ℕ) → place_with key (rows_of rows master) ≡ some p → done p ≡ find_answer limit master rows key
    unfolding find_answer find_refusal refusal14
    find_at k p f =
        let q : found ≡ p = rw f in
        ap done (sym q) ∙ answer_done refusal found (passed _ ∙ rw (← k, f))

    pub find_missing : true ≡ is_sound_key key → place_with key (rows_of rows master) ≡ none → refused 15 ≡ find_answer limit master rows key
    unfolding find_answer find_refusal refusal14
    find_missing k f = answer_err refusal found NoSuchRow (sym (passed _ ∙ rw (← k, f)))
