-- Laws of blocks that are all of one width, or of which each is so and so: cut from bytes, joined, and read again. Assumes nothing.
use Prim.Native.Nat.{ℕ, zero, suc, ◌*◌, ◌≤◌}
use mathlib.Core.Path.{◌≡◌, refl, sym}
use mathlib.Core.Bool.{Bool, true}
use mathlib.Core.List.{List, [], ◌∷◌, ◌++◌, append_assoc}
use native.Mathlib.Nat.{suc-mul}
use native.Mathlib.Omega.{arith}
use lib.ListN.{length, take, drop, length-drop}
use lib.Seq.{length-take-le, take_at, drop_at}
use Rattle.text.specs.Blocks.{blocks, joined}
use Rattle.text.proofs.FieldsLaws.{and_left, and_right}
use Rattle.text.specs.Fields.{every}

-- of each block
abbrev pub All : (List ℕ → Type 0) → List (List ℕ) → Type 0
All P [] = Unit {0}
All P (b ∷ bs) = P b × All P bs

-- a test that each block passes
pub every_all : (f : List ℕ → Bool) (bs : List (List ℕ)) → every f bs ≡ true → All (λ (b : List ℕ). f b ≡ true) bs
every_all f [] t = tt
every_all f (b ∷ bs) t = (and_left (f b) (every f bs) t, every_all f bs (and_right (f b) (every f bs) t))

-- of blocks behind blocks, of the first blocks and of the others
module _ (P : List ℕ → Type 0) where
  pub all_append : (bs cs : List (List ℕ)) → All P bs → All P cs → All P (bs ++ cs)
  all_append [] cs a b = b
  all_append (x ∷ bs) cs a b = (a.0, all_append bs cs a.1 b)

  pub all_take : (k : ℕ) (bs : List (List ℕ)) → All P bs → All P (take k bs)
  all_take zero bs a = tt
  all_take (suc k) [] a = tt
  all_take (suc k) (x ∷ bs) a = (a.0, all_take k bs a.1)

  pub all_drop : (k : ℕ) (bs : List (List ℕ)) → All P bs → All P (drop k bs)
  all_drop zero bs a = a
  all_drop (suc k) [] a = tt
  all_drop (suc k) (x ∷ bs) a = all_drop k bs a.1

module _ (w : ℕ) where
  abbrev IsOf : List ℕ → Type 0
  IsOf b = length b ≡ w

  -- blocks cut from bytes that hold them are of one width
  pub blocks_wide : (n : ℕ) (bytes : List ℕ) → n * w ≤ length bytes → All IsOf (blocks w n bytes)
  unfolding blocks
  blocks_wide zero bytes h = tt
  blocks_wide (suc n) bytes h = (
    length-take-le w bytes (omega (arith, suc-mul n w)),
    blocks_wide n (drop w bytes) (rw (length-drop w bytes) (omega (arith, suc-mul n w))),
  )

  -- blocks of one width that were written are read again
  pub blocks-joined : (bs : List (List ℕ)) (rest : List ℕ) → All IsOf bs → blocks w (length bs) (joined bs ++ rest) ≡ bs
  unfolding blocks joined
  blocks-joined [] rest h = refl
  blocks-joined (b ∷ bs) rest h =
      let behind : List ℕ = joined bs ++ rest in
      rw (append_assoc b (joined bs) rest, take_at b behind w h.0, drop_at b behind w h.0, blocks-joined bs rest h.1)

-- blocks joined in two parts
pub joined-append : (bs cs : List (List ℕ)) → joined (bs ++ cs) ≡ joined bs ++ joined cs
unfolding joined
joined-append [] cs = refl
joined-append (b ∷ bs) cs = rw (joined-append bs cs) (sym (append_assoc b (joined bs) (joined cs)))
