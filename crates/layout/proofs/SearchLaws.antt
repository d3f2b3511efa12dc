-- Laws of rising numbers, membership and binary search, over any list. Assumes nothing.
use mathlib.Core.Path.{◌≡◌, refl, sym, ◌∙◌}
use mathlib.Core.Bool.{Bool, true, false, cond, or-true}
use mathlib.Core.List.{List, [], ◌∷◌}
use mathlib.Core.Logic.{◌⊎◌, inl, inr, ⊎_elim}
use Prim.Native.Nat.{ℕ, zero, suc, ◌+◌, ◌-◌, ◌*◌, ◌≤◌, ◌<◌, zero-le, suc-le-suc}
use native.Mathlib.Nat.{le_of_suc-le-suc, not-suc-le-zero, lt_trans, zero-lt-suc, eq-or-lt_of_le}
use native.Mathlib.Omega.{arith}
use borrow.Author.Tests.{ltb-true, leb-true, leb-false, eq-eqb, ne_eqb, eqb-true, eqb-false}
use lib.Dec.{leb, ltb, eqb}
use lib.ListN.{length, get_or}
use Rattle.layout.specs.StateCodes.{rising_numbers, is_in}
use Rattle.text.proofs.FieldsLaws.{and_left, and_right}

-- rising numbers

rest : (x : ℕ) (l : List ℕ) → rising_numbers (x ∷ l) ≡ true → rising_numbers l ≡ true
rest x [] t = refl
rest x (y ∷ l) t = and_right (ltb x y) (rising_numbers (y ∷ l)) t

above : (x : ℕ) (l : List ℕ) → rising_numbers (x ∷ l) ≡ true → (j : ℕ) → j < length l → x < get_or l j 0
above x [] t j h = absurd (not-suc-le-zero h)
above x (y ∷ l) t zero h = ltb-true x y (and_left (ltb x y) (rising_numbers (y ∷ l)) t)
above x (y ∷ l) t (suc j) h =
    lt_trans (ltb-true x y (and_left (ltb x y) (rising_numbers (y ∷ l)) t)) (above y l (rest x (y ∷ l) t) j (le_of_suc-le-suc h))

-- an earlier entry is below a later one
earlier_below : (l : List ℕ) → rising_numbers l ≡ true → (i j : ℕ) → i < j → j < length l → get_or l i 0 < get_or l j 0
earlier_below [] t i j h k = absurd (not-suc-le-zero k)
earlier_below (x ∷ l) t i zero h k = absurd (not-suc-le-zero h)
earlier_below (x ∷ l) t zero (suc j) h k = above x l t j (le_of_suc-le-suc k)
earlier_below (x ∷ l) t (suc i) (suc j) h k = earlier_below l (rest x l t) i j (le_of_suc-le-suc h) (le_of_suc-le-suc k)

-- membership

-- an entry is in the list
pub in_at : (x : ℕ) (l : List ℕ) (k : ℕ) → k < length l → get_or l k 0 ≡ x → is_in x l ≡ true
in_at x [] k h e = absurd (not-suc-le-zero h)
in_at x (y ∷ l) zero h e = rw (eq-eqb x y (sym e))
in_at x (y ∷ l) (suc k) h e = rw (in_at x l k (le_of_suc-le-suc h) e) (or-true (eqb x y))

-- what no entry is is not in the list
in_none : (x : ℕ) (l : List ℕ) → ((k : ℕ) → k < length l → get_or l k 0 ≡ x → ⊥) → is_in x l ≡ false
in_none x [] h = refl
in_none x (y ∷ l) h =
    rw (ne_eqb x y (λ e. h zero (zero-lt-suc (length l)) (sym e))) (in_none x l (λ k b. h (suc k) (suc-le-suc b)))

-- binary search

-- what a search for x knows: the entries before lo are below x, and those from hi on above
pub record Bracket (l : List ℕ) (x lo hi : ℕ) : Type 0 where
  pub order : lo ≤ hi
  pub end : hi ≤ length l
  pub before : (k : ℕ) → k < lo → get_or l k 0 < x
  pub behind : (k : ℕ) → hi ≤ k → k < length l → x < get_or l k 0

-- the search begins with all entries
pub all_entries : (l : List ℕ) (x n : ℕ) → length l ≡ n → Bracket l x 0 n
all_entries l x n e =
    record {
      order = zero-le;
      end = omega (arith, e);
      before = λ k h. omega arith;
      behind = λ k h b. omega (arith, e);
    }

module _ {l : List ℕ} {x lo hi : ℕ} (t : rising_numbers l ≡ true) (b : Bracket l x lo hi) (mid : ℕ) (p : lo ≤ mid) (q : mid < hi) where
  -- the entry in the middle is x at most: the search may go on from it
  pub from : get_or l mid 0 ≤ x → Bracket l x mid hi
  from h =
      let m : mid < length l = omega (arith, b.end) in
      record {
        order = omega arith;
        end = b.end;
        before = λ k kl. omega (arith, earlier_below l t k mid kl m, h);
        behind = b.behind;
      }

  -- it is above x: the search goes on before it
  pub down : x < get_or l mid 0 → Bracket l x lo mid
  down h =
      record {
        order = p;
        end = omega arith;
        before = b.before;
        behind = λ k mk kl.
            ⊎_elim (λ (r : mid ≡ k). rw (← r) h) (λ (r : mid < k). lt_trans h (earlier_below l t mid k r kl)) (eq-or-lt_of_le mk);
      }

-- the entries before the middle are left out where the middle is x at most, else as many at the end
pub halved : {l : List ℕ} {x : ℕ} → rising_numbers l ≡ true → (lo left half y one : ℕ) → Bracket l x lo (lo + left) → half < left
    → half + half ≤ left → y ≡ get_or l (lo + half) 0 → one ≡ cond (leb y x) 1 0
    → Bracket l x (lo + half * one) (lo + half * one + (left - half))
halved {l} {x} t lo left half y one b h w ey eo = go (leb y x) refl
  where
    go : (r : Bool) → leb y x ≡ r → Bracket l x (lo + half * one) (lo + half * one + (left - half))
    go true e =
        let o : one ≡ 1 = eo ∙ rw e in
        let m = from t b (lo + half) (omega arith) (omega arith) (rw (← ey) (leb-true y x e)) in
        record {
          order = omega arith;
          end = rw o (omega (arith, b.end));
          before = rw o (λ k kl. m.before k (omega arith));
          behind = rw o (λ k mk kl. m.behind k (omega (arith, w)) kl);
        }
    go false e =
        let o : one ≡ 0 = eo ∙ rw e in
        let m = down t b (lo + half) (omega arith) (omega arith) (rw (← ey) (leb-false y x e)) in
        record {
          order = omega arith;
          end = rw o (omega (arith, b.end));
          before = rw o (λ k kl. m.before k (omega arith));
          behind = rw o (λ k mk kl. m.behind k (omega (arith, w)) kl);
        }

at_least : (n k : ℕ) → (n ≤ k) ⊎ (k < n)
at_least zero k = inl zero-le
at_least (suc n) zero = inr (zero-lt-suc n)
at_least (suc n) (suc k) = ⊎_elim (λ (h : n ≤ k). inl (suc-le-suc h)) (λ (h : k < n). inr (suc-le-suc h)) (at_least n k)

-- the search ends where nothing is between: x is not in the list
pub missing : {l : List ℕ} {x lo hi : ℕ} → Bracket l x lo hi → hi ≤ lo → is_in x l ≡ false
missing {l} {x} {lo} {hi} b e =
    in_none x l (λ k kl r.
    ⊎_elim (λ (h : lo ≤ k). omega (arith, b.behind k (omega arith) kl)) (λ (h : k < lo). omega (arith, b.before k h)) (at_least lo k))

-- the search ends with one entry: x is in the list where it is that entry
pub found : {l : List ℕ} {x lo hi : ℕ} → Bracket l x lo hi → lo < hi → hi ≤ lo + 1 → is_in x l ≡ eqb (get_or l lo 0) x
found {l} {x} {lo} {hi} b p q = go (eqb (get_or l lo 0) x) refl
  where
    other : (get_or l lo 0 ≡ x → ⊥) → (k : ℕ) → k < length l → get_or l k 0 ≡ x → ⊥
    other n k kl r =
        ⊎_elim (λ (h : lo ≤ k).
        ⊎_elim (λ (s : lo ≡ k). n (rw s r)) (λ (s : lo < k). omega (arith, b.behind k (omega arith) kl)) (eq-or-lt_of_le h))
        (λ (h : k < lo). omega (arith, b.before k h)) (at_least lo k)

    go : (t : Bool) → eqb (get_or l lo 0) x ≡ t → is_in x l ≡ t
    go true e = in_at x l lo (omega (arith, b.end)) (eqb-true (get_or l lo 0) x e)
    go false e = in_none x l (other (eqb-false (get_or l lo 0) x e))
