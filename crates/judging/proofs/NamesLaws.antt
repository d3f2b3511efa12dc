-- Laws of the names that records give: who gives none, whether a name is given, record by record, and names for each answer.
-- Assumes nothing.
use Prim.Native.Nat.{ℕ}
use mathlib.Core.Path.{◌≡◌, refl}
use mathlib.Core.Bool.{Bool, true, false, cond, ◌&&◌, ◌||◌}
use mathlib.Core.List.{List, [], ◌∷◌, ◌++◌}
use Rattle.text.specs.Characters.{B}
use Rattle.text.specs.Fields.{columns, same_bytes, is_one_of}
use Rattle.text.proofs.SameLaws.{eq_same}
use Rattle.layout.specs.Record.{is_type}
use Rattle.judging.specs.Errors.{is_given}
use Rattle.judging.specs.Names.{gives_name, names_given}

module _ (rec : List ℕ) where
  pub none_given : is_given [] rec ≡ false
  unfolding is_given is_one_of
  none_given = refl

  -- whether a record's name is given or not, there are names of which that is so
  pub some_names : (given : Bool) → (names : List (List ℕ)) × (given ≡ is_given names rec)
  unfolding is_given is_one_of
  some_names true = (columns 30 33 rec ∷ [], rw (eq_same (columns 30 33 rec) (columns 30 33 rec) refl))
  some_names false = ([], refl)

module _ (state rec : List ℕ) where
  -- a record that is no B gives none
  pub other_gives_none : is_type B rec ≡ false → gives_name state rec ≡ false
  unfolding gives_name
  other_gives_none e = rw e

  -- no records give none
  pub given_none : is_given (names_given state []) rec ≡ false
  unfolding names_given
  given_none = none_given rec

  -- given by the first record, or by those behind it
  pub given_next : (first : List ℕ) (recs : List (List ℕ))
      → is_given (names_given state (first ∷ recs)) rec
      ≡ (gives_name state first && same_bytes (columns 30 33 rec) (columns 30 33 first) || is_given (names_given state recs) rec)
  unfolding is_given names_given is_one_of
  given_next first recs = go (gives_name state first)
    where
      go : (t : Bool)
          → is_one_of (columns 30 33 rec) (cond t (columns 30 33 first ∷ names_given state recs) (names_given state recs))
          ≡ (t && same_bytes (columns 30 33 rec) (columns 30 33 first) || is_one_of (columns 30 33 rec) (names_given state recs))
      go true = refl
      go false = refl

-- ---- the names that some records give

module _ (state : List ℕ) where
  pub names_none : names_given state [] ≡ []
  unfolding names_given
  names_none = refl

  -- a record that is no B adds none
  pub names_skip : (rec : List ℕ) (recs : List (List ℕ)) → is_type B rec ≡ false → names_given state (rec ∷ recs) ≡ names_given state recs
  unfolding names_given
  names_skip rec recs e = rw (other_gives_none state rec e)

  pub names_append : (xs ys : List (List ℕ)) → names_given state (xs ++ ys) ≡ names_given state xs ++ names_given state ys
  unfolding names_given
  names_append [] ys = refl
  names_append (x ∷ xs) ys = rw (names_append xs ys) (go (gives_name state x))
    where
      go : (t : Bool)
          → cond t (columns 30 33 x ∷ (names_given state xs ++ names_given state ys)) (names_given state xs ++ names_given state ys)
          ≡ cond t (columns 30 33 x ∷ names_given state xs) (names_given state xs) ++ names_given state ys
      go true = refl
      go false = refl
