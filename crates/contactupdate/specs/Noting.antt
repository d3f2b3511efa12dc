-- For the contracts of inner functions; no rule of the papers stands here.
-- The number of the last good record of each key, 0 where there is none. Assumes nothing.
use Rattle.std.specs.Prelude.{ℕ, ◌+◌, ◌-◌, List, [], ◌∷◌, cond, get_or, set, eqb}
use Rattle.std.proofs.Math.Option.{some}
use Rattle.contactrecord.specs.Contact.{is_faulty}
use Rattle.contactupdate.specs.KeyNumbers.{key_number, Held}

-- noted onto what stood there, the first record's number being n
unfoldable pub lasts_from : ℕ → List (List ℕ) → List ℕ → List ℕ
lasts_from n [] lasts = lasts
lasts_from n (rec ∷ file) lasts = lasts_from (n + 1) file (cond (is_faulty rec) lasts (set lasts (key_number rec) n))

-- the record of each key number afterwards: the one noted, where there is one, else the old one
unfoldable pub held_after : List (List ℕ) → List ℕ → Held → Held
held_after file lasts old k = cond (eqb (get_or lasts k 0) 0) (old k) (some (get_or file (get_or lasts k 0 - 1) []))
