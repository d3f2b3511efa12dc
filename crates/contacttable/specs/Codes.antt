-- Document 02, item 4: the codes of one state but 000, three bytes each and rising, or a refusal. Assumes nothing.
use Rattle.std.specs.Prelude.{ℕ, ◌*◌, List, [], ◌∷◌, ◌++◌, Bool, not, cond, ◌&&◌, length, ltb, Result}
use Rattle.text.specs.Fields.{same_bytes}
use Rattle.text.specs.Blocks.{joined, over}
use Rattle.layout.specs.States.{is_state}
use Rattle.layout.specs.Locals.{zero_local_code}
use Rattle.answers.specs.Answer.{refuse_if, Answer, Outcome, Run, outcome_by}
use Rattle.answers.specs.Refusal.{answer_in}
use Rattle.answers.specs.declared.refusal.Refusal.{Refusal}
use Rattle.contactrecord.specs.ChartA3.{contact_state, contact_code}
use Rattle.contacttable.specs.Table.{contacts_of, is_wrong_table}

-- a record of the state with a code other than 000, which is the state's own
unfoldable pub is_local_of : List ℕ → List ℕ → Bool
is_local_of state rec = same_bytes (contact_state rec) state && not (same_bytes (contact_code rec) zero_local_code)

-- the codes of one state but 000, in the table's order
unfoldable pub local_codes : List ℕ → List (List ℕ) → List (List ℕ)
local_codes state [] = []
local_codes state (rec ∷ table) = cond (is_local_of state rec) (contact_code rec ∷ []) [] ++ local_codes state table

-- refused, in order: 18; 12, a state not in the table, one that isn't two bytes included; 19, an output too short
unfoldable pub codes_refusal : List ℕ → ℕ → List ℕ → List ℕ → ℕ
codes_refusal table count state out =
    refuse_if (is_wrong_table table count) 18
    (refuse_if (not (is_state state)) 12
    (refuse_if (ltb (length out) (length (local_codes state (contacts_of count table)) * 3)) 19 0))

-- the answer counts the codes, or is a refusal's number
abbrev pub codes_answer : Result ℕ Refusal → Answer ℕ
codes_answer r = answer_in (λ n. n) r

abbrev pub CodesOutcome : Type 0
CodesOutcome = Outcome ℕ (List ℕ)

-- the answer of the call and the output that it leaves
abbrev pub codes_as : Result ℕ Refusal → List ℕ → CodesOutcome
codes_as answer out = record { answer = codes_answer answer; buffers = out }

-- bytes behind the codes are kept
abbrev pub codes_run : List ℕ → ℕ → List ℕ → List ℕ → Run ℕ (List ℕ)
codes_run table count state out =
    record {
      result = length (local_codes state (contacts_of count table));
      buffers = over (joined (local_codes state (contacts_of count table))) out;
    }

unfoldable pub codes_outcome : List ℕ → ℕ → List ℕ → List ℕ → CodesOutcome
codes_outcome table count state out = outcome_by (codes_refusal table count state out) out (codes_run table count state out)
