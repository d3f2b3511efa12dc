-- `is_text`: a part with another first byte is not the text. Assumes nothing.
use Rattle.std.proofs.Common.{◌≡◌, ℕ, List, [], ◌∷◌, Some, false}
use borrow.Author.Tests.{ne_eqb}
use Rattle.std.specs.Prelude.{slice_get}
use Rattle.text.specs.Fields.{same_bytes}
use Rattle.contactrecord.proofs.wording.is_text.Goals as goal

first_differs : (p t : List ℕ) (a b : ℕ) → Some a ≡ slice_get p 0 → Some b ≡ slice_get t 0 → (a ≡ b → ⊥) → false ≡ same_bytes p t
unfolding same_bytes
first_differs [] t a b e f n = cc
first_differs (x ∷ p) [] a b e f n = cc
first_differs (x ∷ p) (y ∷ t) a b e f n = rw (ne_eqb x y (λ g. n (let h : a ≡ b = cc in h)))

pub returns-in-Some-Some : goal.returns-in-Some-Some
returns-in-Some-Some c =
    let i = c.in-Some-Some in
    first_differs c.args.part.now c.args.text.now i.a.now i.b.now i.ensures.value i.ensures'.value c.if-a-b.true
