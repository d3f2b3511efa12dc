-- From the outcome of a call over the contact file to what its C function leaves. Assumes nothing.
use Prim.Native.Nat.{ℕ}
use mathlib.Core.Path.{◌≡◌}
use mathlib.Core.List.{List}
use Rattle.std.specs.Prelude.{Result}
use Rattle.answers.specs.declared.refusal.Refusal.{Refusal}
use Rattle.answers.specs.Answer.{returned}
use Rattle.answers.proofs.AnswerLaws.{returned_by}
use Rattle.layout.specs.Limits.{max_rows}
use Rattle.contactupdate.specs.Update.{updated_as, update_outcome}
use Rattle.contactupdate.specs.declared.update.Updated.{Updated}
use Rattle.contacttable.specs.Codes.{codes_as, codes_outcome}
use Rattle.fantanolive.specs.ContactsCalls.{update_numbers, update_left, codes_left}

pub update_left_lem : (table : List ℕ) (count : ℕ) (file faulty table' faulty' result : List ℕ) (answer told : Result Updated Refusal)
    → updated_as answer table' faulty' ≡ update_outcome max_rows table count file faulty → answer ≡ told
    → returned update_numbers result (updated_as told table' faulty') ≡ update_left table count file faulty result
unfolding update_left
update_left_lem table count file faulty table' faulty' result answer told o e =
    returned_by (λ (a : Result Updated Refusal). updated_as a table' faulty') update_numbers result (update_outcome max_rows table count file faulty) answer told o e

pub codes_left_lem : (table : List ℕ) (count : ℕ) (state out left : List ℕ) (codes : ℕ) (answer told : Result ℕ Refusal)
    → codes_as answer left ≡ codes_outcome table count state out → answer ≡ told
    → returned (λ n. n) codes (codes_as told left) ≡ codes_left table count state out codes
unfolding codes_left
codes_left_lem table count state out left codes answer told o e =
    returned_by (λ (a : Result ℕ Refusal). codes_as a left) (λ n. n) codes (codes_outcome table count state out) answer told o e
