-- What every call answers and leaves: refused with the number of the first refusal that holds, every buffer as it was at entry, or done. Over
-- any result and any buffers. Assumes nothing.
use Rattle.std.specs.Prelude.{ℕ, ◌≡◌, Bool, true, false, cond, eqb}

-- refused, in order: the number of a refusal where it holds, else what comes behind it: the next refusal, or 0 behind the last
abbrev pub refuse_if : Bool → ℕ → ℕ → ℕ
refuse_if holds number behind = cond holds number behind

-- the answer of a call: a refusal's number, or its result
pub data Answer (R : Type 0) : Type 0 where
  refused : ℕ → Answer R
  done : R → Answer R

-- the result of a call that has none to give
abbrev pub NoResult : Type 0
NoResult = Unit {0}

-- an answer, and every buffer lent that can be written
pub record Outcome (R B : Type 0) : Type 0 where
  pub answer : Answer R
  pub buffers : B

-- what a call that is carried out gives: its result, and what it leaves in the buffers
pub record Run (R B : Type 0) : Type 0 where
  pub result : R
  pub buffers : B

-- the outcome of a call by the number of its first refusal, 0 where none holds: a refusal leaves every buffer as it was at entry
unfoldable pub outcome_by : {R B : Type 0} → ℕ → B → Run R B → Outcome R B
outcome_by refusal entry run =
    cond (eqb refusal 0) (record { answer = done run.result; buffers = run.buffers }) (record { answer = refused refusal; buffers = entry })

-- the answer of a call that has no buffer to write, in the same way
unfoldable pub answer_by : {R : Type 0} → ℕ → R → Answer R
answer_by refusal result = cond (eqb refusal 0) (done result) (refused refusal)

-- a call that is carried out
abbrev pub is_carried_out : {R : Type 0} → Answer R → Bool
is_carried_out (refused n) = false
is_carried_out (done r) = true

-- what a call that is carried out leaves, and what a refusal leaves
abbrev pub Leaves : {R B : Type 0} → Outcome R B → R → B → Type 0
Leaves o result buffers = o ≡ record { answer = done result; buffers = buffers }

abbrev pub Refuses : {R B : Type 0} → Outcome R B → ℕ → B → Type 0
Refuses o n buffers = o ≡ record { answer = refused n; buffers = buffers }

-- ---- what a C function returns and leaves

-- the number returned, the result numbers behind their pointers, and every buffer lent that can be written
pub record Returned (N B : Type 0) : Type 0 where
  pub number : ℕ
  pub numbers : N
  pub buffers : B

-- 0, or the refusal's number
abbrev pub refusal_number : {R : Type 0} → Answer R → ℕ
refusal_number (refused n) = n
refusal_number (done r) = 0

-- result numbers are written where the call is carried out; a refusal leaves them alone
abbrev pub numbers_of : {R N : Type 0} → (R → N) → N → Answer R → N
numbers_of f kept (refused n) = kept
numbers_of f kept (done r) = f r

abbrev pub returned : {R N B : Type 0} → (R → N) → N → Outcome R B → Returned N B
returned f kept o = record { number = refusal_number o.answer; numbers = numbers_of f kept o.answer; buffers = o.buffers }
