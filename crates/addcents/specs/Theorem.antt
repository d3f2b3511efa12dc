-- What a conversion that is carried out leaves, read off the master: no sentence of the papers, a consequence. Over any limit. Assumes nothing.
use Rattle.std.specs.Prelude.{ℕ, ◌*◌, ◌≡◌, List, map, true}
use Rattle.answers.specs.Answer.{is_carried_out}
use Rattle.text.specs.Fields.{number}
use Rattle.casemaster.specs.Row.{row_arrearage, row_status, balance}
use Rattle.casemaster.specs.Master.{rows_of, keys_of, are_sound_rows}
use Rattle.addcents.specs.Convert.{ConvertCall, ConvertOutcome, AreCentsAdded}

-- a row's dollars, in cents
abbrev pub dollar_cents : List ℕ → ℕ
dollar_cents row = number (row_arrearage row) * 100

-- the rows at entry, and those that a call leaves
abbrev pub old_rows : ConvertCall → List (List ℕ)
old_rows c = rows_of c.rows c.master

abbrev pub new_rows : ConvertCall → ConvertOutcome → List (List ℕ)
new_rows c o = rows_of c.rows o.buffers

-- sound rows with cents, the same keys, dollars and status, and each balance its dollars
pub record Converts (c : ConvertCall) (o : ConvertOutcome) : Type 0 where
  pub sound : are_sound_rows (new_rows c o) ≡ true
  pub keys : keys_of (new_rows c o) ≡ keys_of (old_rows c)
  pub dollars : map row_arrearage (new_rows c o) ≡ map row_arrearage (old_rows c)
  pub status : map row_status (new_rows c o) ≡ map row_status (old_rows c)
  pub balances : map balance (new_rows c o) ≡ map dollar_cents (old_rows c)

-- for every conversion that is carried out
abbrev pub EveryConversion : Type 0
EveryConversion = (c : ConvertCall) (o : ConvertOutcome) → AreCentsAdded c o → is_carried_out o.answer ≡ true → Converts c o
