-- The exported C functions of document 02, item 4: what each returns and what it leaves in its result numbers and every buffer lent, over the
-- outcome of the call beneath it. Assumes nothing.
use Rattle.std.specs.Prelude.{ℕ, List, [], ◌∷◌}
use Rattle.answers.specs.Answer.{Returned, returned}
use Rattle.layout.specs.Limits.{max_rows}
use Rattle.contactupdate.specs.Update.{UpdateResult, UpdateBuffers, update_outcome}
use Rattle.contacttable.specs.Codes.{codes_outcome}

-- fantanolive_contacts_update: the new table count and the list's
abbrev pub update_numbers : UpdateResult → List ℕ
update_numbers r = r.records ∷ r.listed ∷ []

unfoldable pub update_left : List ℕ → ℕ → List ℕ → List ℕ → List ℕ → Returned (List ℕ) UpdateBuffers
update_left table count file faulty result = returned update_numbers result (update_outcome max_rows table count file faulty)

-- fantanolive_contacts_codes: how many codes are written
unfoldable pub codes_left : List ℕ → ℕ → List ℕ → List ℕ → ℕ → Returned ℕ (List ℕ)
codes_left table count state out codes = returned (λ n. n) codes (codes_outcome table count state out)
