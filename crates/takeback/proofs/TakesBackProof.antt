-- The theorem of item 8 over whole calls of taking back: the journal of a batch passes refusal 26 and leaves the rows at entry.
-- Assumes nothing.
use Prim.Native.Nat.{ℕ}
use mathlib.Core.Path.{◌≡◌, refl, sym, ap, ◌∙◌}
use mathlib.Core.Bool.{true}
use mathlib.Core.List.{List, [], ◌∷◌}
use mathlib.Core.Option.{some}
use lib.ListN.{length}
use Rattle.answers.proofs.AnswerLaws.{outcome_done}
use Rattle.text.proofs.WidthLaws.{All}
use Rattle.casemaster.specs.Master.{rows_of}
use Rattle.casemaster.proofs.RowsLaws.{IsWide}
use Rattle.journal.specs.Journal.{Journal, journal_of, journal_bytes, journal_in}
use Rattle.takeback.specs.Restored.{can_take_back}
use Rattle.takeback.specs.TakeBack.{take_back_refusal, take_back_run, take_back_outcome}
use Rattle.takeback.specs.Theorem.{AreWide, TakesBack}
use Rattle.takeback.proofs.TakenLaws.{taken_back_lem, journal_taken}
use Rattle.journal.proofs.FormLaws.{journal_own_read}
use Rattle.takeback.proofs.TakeBackLaws.{refusal_none}

wide_all : (rows : List (List ℕ)) → AreWide rows → All IsWide rows
wide_all [] w = tt
wide_all (row ∷ rows) w = (w.0, wide_all rows w.1)

before_is : (old new : List (List ℕ)) → (journal_of old new).before ≡ length old
unfolding journal_of
before_is old new = refl

pub takes_back : TakesBack
unfolding take_back_outcome
takes_back limit old master rows k =
    let new : List (List ℕ) = rows_of rows master in
    let j : Journal = journal_of old new in
    let r : journal_in (journal_bytes j) ≡ some j = journal_own_read old new (wide_all old k.wide) in
    let t : can_take_back (journal_in (journal_bytes j)) new ≡ true = ap (λ o. can_take_back o new) r ∙ journal_taken old new k.follows k.sound in
    let z : take_back_refusal limit master rows (journal_bytes j) ≡ 0 = sym (refusal_none limit master rows (journal_bytes j) k.passed true (sym t) refl) in
    sym (outcome_done (take_back_refusal limit master rows (journal_bytes j)) master (take_back_run (journal_in (journal_bytes j)) master rows) z)
    ∙ rw (r, taken_back_lem old new k.follows, before_is old new)
