-- A code on a list of codes that are digits is digits. Assumes nothing.
use Prim.Native.Nat.{ℕ, ◌%◌}
use mathlib.Core.Path.{◌≡◌, refl}
use mathlib.Core.List.{List, [], ◌∷◌}
use mathlib.Core.Bool.{Bool, true, false, ◌&&◌, ◌||◌, false≢true}
use lib.Dec.{eqb}
use lib.ListN.{length}
use Rattle.text.specs.Fields.{every, all_digits, are_digits, same_bytes, is_one_of}
use Rattle.layout.specs.Locals.{codes_of_list, is_listed, is_local_list}
use Rattle.text.proofs.FieldsLaws.{and_left, and_right, digits_all}
use Rattle.text.proofs.SameLaws.{same_eq}
use Rattle.text.specs.ByteOrder.{rising}

-- what is one of the blocks passes a test that each block passes
pub one_of_every : (f : List ℕ → Bool) (s : List ℕ) (ts : List (List ℕ)) → every f ts ≡ true → is_one_of s ts ≡ true → f s ≡ true
unfolding is_one_of
one_of_every f s [] e t = absurd (false≢true t)
one_of_every f s (b ∷ bs) e t =
    go (same_bytes s b) refl t (one_of_every f s bs (and_right (f b) (every f bs) e))
  where
    go : (p : Bool) → same_bytes s b ≡ p → (p || is_one_of s bs) ≡ true → (is_one_of s bs ≡ true → f s ≡ true) → f s ≡ true
    go true h t r = rw (same_eq s b h) (and_left (f b) (every f bs) e)
    go false h t r = r t

pub listed_digits : (code list : List ℕ) → is_local_list list ≡ true → is_listed code list ≡ true → all_digits code ≡ true
unfolding is_local_list is_listed
listed_digits code list l t =
    let e = and_right (eqb (length list % 3) 0) (every (are_digits 3) (codes_of_list list) && rising (codes_of_list list)) l in
    digits_all 3 code
    (one_of_every (are_digits 3) code (codes_of_list list)
    (and_left (every (are_digits 3) (codes_of_list list)) (rising (codes_of_list list)) e) t)
