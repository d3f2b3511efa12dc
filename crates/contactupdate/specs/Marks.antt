-- For the contracts of inner functions; no rule of the papers stands here.
-- The keys of a table marked by 1 at their numbers, and the records of a file whose key isn't marked. Assumes nothing.
use Rattle.std.specs.Prelude.{ℕ, ◌+◌, ◌-◌, ◌≡◌, List, [], ◌∷◌, Bool, not, cond, ◌||◌, length, get_or, set, eqb}
use Rattle.text.specs.Options.{one_or_none}
use Rattle.contactrecord.specs.Contact.{is_contact_key}
use Rattle.contactupdate.specs.KeyNumbers.{key_number, held_in}

-- the marks with those of a table's records
unfoldable pub keys_marked : List (List ℕ) → List ℕ → List ℕ
keys_marked [] held = held
keys_marked (rec ∷ table) held = keys_marked table (set held (key_number rec) 1)

-- the keys of some records are marked, and no others
pub record Flagged (rows : List (List ℕ)) (held : List ℕ) : Type 0 where
  pub wide : length held ≡ 54000
  pub flag : (j : ℕ) → get_or held j 0 ≡ length (one_or_none (held_in rows j))

-- the key of a record isn't marked, where marks are 0 and 1; one that isn't sound is no table's
abbrev pub is_lacking : List ℕ → List ℕ → Bool
is_lacking held rec = not (is_contact_key rec) || eqb (get_or held (key_number rec) 0) 0

-- how many records have a key that isn't marked; one that isn't sound is no table's
unfoldable pub lacking_in : List ℕ → List (List ℕ) → ℕ
lacking_in held [] = 0
lacking_in held (rec ∷ file) = cond (is_contact_key rec) (1 - get_or held (key_number rec) 0) 1 + lacking_in held file
