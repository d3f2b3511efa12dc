-- What apply-batch answers: what the call does, or 0 where a file is missing or too long; and any number as it is. Assumes nothing.
use Rattle.std.specs.Prelude.{ℕ, List, Bool, true, false, Result, Ok, Err}
use Rattle.answers.specs.Answer.{Answer, refused}
use Rattle.answers.specs.Refusal.{refusal_number_of}
use Rattle.batch.specs.Apply.{ApplyResult, ApplyOutcome, apply_answer}
use Rattle.batch.specs.declared.apply.Applied.{Applied}
use Rattle.apply_output.specs.declared.stop.Stop.{Stop}
use Rattle.apply_output.specs.declared.stop.Stop.TheVariants.{Files, Refused, Number}

-- the number that is printed
abbrev pub stop_number : Stop → ℕ
stop_number Files = 0
stop_number (Refused refusal) = refusal_number_of refusal
stop_number (Number n) = n

-- what a run answers: a number under its name
abbrev pub is_named : Result Applied Stop → Bool
is_named (Ok applied) = true
is_named (Err Files) = true
is_named (Err (Refused refusal)) = true
is_named (Err (Number n)) = false

-- what each answer of a run stands for
abbrev pub run_answer : Result Applied Stop → Answer ApplyResult
run_answer (Ok applied) = apply_answer (Ok applied)
run_answer (Err stop) = refused (stop_number stop)

-- the outcome of a run, from what is answered
abbrev pub run_as : Result Applied Stop → List ℕ → List ℕ → List ℕ → ApplyOutcome
run_as answer master verdicts rejects =
    record { answer = run_answer answer; buffers = record { master = master; verdicts = verdicts; rejects = rejects } }
