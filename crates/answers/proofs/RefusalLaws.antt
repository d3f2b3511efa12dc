-- Laws of the refusals' numbers: none is 0, so that a call that answers an error is refused. Assumes nothing.
use Prim.Native.Nat.{ℕ}
use mathlib.Core.Path.{◌≡◌, refl, sym}
use mathlib.Core.Bool.{true, false, false≢true}
use Rattle.std.specs.Prelude.{Result, Ok, Err}
use lib.Dec.{eqb}
use borrow.Author.Tests.{ne_eqb}
use Rattle.std.specs.Result.{is_ok, is_err}
use native.Mathlib.Omega.{arith}
use Rattle.answers.specs.declared.refusal.Refusal.{Refusal}
use Rattle.answers.specs.declared.refusal.Refusal.TheVariants.{WrongYear, WrongLocals, WrongMaster, UnsoundRow, WrongBatch, NoCtl, WrongCount, WrongAmount, NoRoom, ShortVerdicts, ShortOutput, WrongState, WrongDate, UnsoundKey, NoSuchRow, WrongContacts, ShortContacts, ControlState, ControlForm, WrongFile, WrongTotal, ShortLines, ShortJournal, WrongJournal, WrongKeys, ShortPlaces, NoRecords, ShortRecords, ShortPages, CannotMerge, ShortBatch}
use Rattle.answers.specs.Answer.{refused, Run, outcome_by, answer_by}
use Rattle.answers.specs.Refusal.{refusal_number_of, number_in}
use Rattle.answers.proofs.AnswerLaws.{outcome_refused, answer_refused}

pub number_above_zero : (r : Refusal) → refusal_number_of r ≡ 0 → ⊥
number_above_zero WrongYear e = omega arith
number_above_zero WrongLocals e = omega arith
number_above_zero WrongMaster e = omega arith
number_above_zero UnsoundRow e = omega arith
number_above_zero WrongBatch e = omega arith
number_above_zero NoCtl e = omega arith
number_above_zero WrongCount e = omega arith
number_above_zero WrongAmount e = omega arith
number_above_zero NoRoom e = omega arith
number_above_zero ShortVerdicts e = omega arith
number_above_zero ShortOutput e = omega arith
number_above_zero WrongState e = omega arith
number_above_zero WrongDate e = omega arith
number_above_zero UnsoundKey e = omega arith
number_above_zero NoSuchRow e = omega arith
number_above_zero WrongContacts e = omega arith
number_above_zero ShortContacts e = omega arith
number_above_zero ControlState e = omega arith
number_above_zero ControlForm e = omega arith
number_above_zero WrongFile e = omega arith
number_above_zero WrongTotal e = omega arith
number_above_zero ShortLines e = omega arith
number_above_zero ShortJournal e = omega arith
number_above_zero WrongJournal e = omega arith
number_above_zero WrongKeys e = omega arith
number_above_zero ShortPlaces e = omega arith
number_above_zero NoRecords e = omega arith
number_above_zero ShortRecords e = omega arith
number_above_zero ShortPages e = omega arith
number_above_zero CannotMerge e = omega arith
number_above_zero ShortBatch e = omega arith

-- an error whose number is the first refusal's that holds, as the outcome of a call, and as the answer of one that has no buffer to write
pub outcome_err : {R B : Type 0} (refusal : ℕ) (entry : B) (run : Run R B) (r : Refusal) → refusal_number_of r ≡ refusal
    → record { answer = refused (refusal_number_of r); buffers = entry } ≡ outcome_by refusal entry run
outcome_err refusal entry run r e = outcome_refused refusal entry run (refusal_number_of r) e (number_above_zero r)

pub answer_err : {R : Type 0} (refusal : ℕ) (result : R) (r : Refusal) → refusal_number_of r ≡ refusal
    → refused (refusal_number_of r) ≡ answer_by refusal result
answer_err refusal result r e = answer_refused refusal result (refusal_number_of r) e (number_above_zero r)

-- a test of the refusals, by whether it is an error
pub number_err : {T : Type 0} (r : Result T Refusal) → is_err r ≡ true → number_in r ≡ 0 → ⊥
number_err (Ok x) f = absurd (false≢true f)
number_err (Err e) f = number_above_zero e

pub number_ok : {T : Type 0} (r : Result T Refusal) → is_err r ≡ false → number_in r ≡ 0
number_ok (Ok x) f = refl
number_ok (Err e) f = absurd (false≢true (sym f))

pub number_is_ok : {T : Type 0} (r : Result T Refusal) → is_ok r ≡ eqb (number_in r) 0
number_is_ok (Ok x) = refl
number_is_ok (Err e) = sym (ne_eqb (refusal_number_of e) 0 (number_above_zero e))
