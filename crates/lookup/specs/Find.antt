-- Document 01, "Finding a case". Assumes nothing.
use Rattle.std.specs.Prelude.{ℕ, List, Bool, true, false, not, Result}
use Rattle.std.proofs.Math.Option.{Option, none, some}
use Rattle.answers.specs.Answer.{refuse_if, Answer, answer_by}
use Rattle.answers.specs.Refusal.{answer_in}
use Rattle.answers.specs.declared.refusal.Refusal.{Refusal}
use Rattle.layout.specs.Key.{is_sound_key}
use Rattle.casemaster.specs.Master.{rows_of}
use Rattle.casemaster.specs.Rows.{place_with}
use Rattle.casemaster.specs.Refusals.{master_refusal}

-- 14: key unsound; a key not of twelve bytes is unsound
unfoldable pub refusal14 : List ℕ → Bool
refusal14 key = not (is_sound_key key)

-- 15: no such row
abbrev pub refusal15 : Option ℕ → Bool
refusal15 none = true
refusal15 (some p) = false

-- refused, in order: 3; 4; 14; 15; the limit is that of 3, and nothing else takes it
unfoldable pub find_refusal : ℕ → List ℕ → ℕ → List ℕ → ℕ
find_refusal limit master rows key =
    master_refusal limit master rows (refuse_if (refusal14 key) 14 (refuse_if (refusal15 (place_with key (rows_of rows master))) 15 0))

-- what each answer of the call stands for: the place of the key's row, or a refusal's number
abbrev pub found_of : Result ℕ Refusal → Answer ℕ
found_of r = answer_in (λ p. p) r

-- the place that was found; where 15 does not hold there is one
abbrev pub place_found : Option ℕ → ℕ
place_found none = 0
place_found (some p) = p

-- the place of the key's row, deleted or not, the first being 0; no buffer is lent that can be written
unfoldable pub find_answer : ℕ → List ℕ → ℕ → List ℕ → Answer ℕ
find_answer limit master rows key = answer_by (find_refusal limit master rows key) (place_found (place_with key (rows_of rows master)))
