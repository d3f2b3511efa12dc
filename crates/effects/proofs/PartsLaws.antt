-- Laws of the parts of a file: the names of a part are the whole's where no key with a B record has records elsewhere, so the settings of a
-- part agree with the whole's under the keys of its details. Assumes nothing.
use Prim.Native.Nat.{ℕ, ◌+◌, ◌≤◌}
use mathlib.Core.Path.{◌≡◌, refl, sym, ap, ◌∙◌}
use mathlib.Core.Bool.{Bool, true, false, cond, ◌||◌}
use mathlib.Core.List.{List, [], ◌∷◌, ◌++◌, append-nil}
use native.Mathlib.Omega.{arith}
use Rattle.text.specs.Characters.{B}
use Rattle.text.proofs.WidthLaws.{All}
use Rattle.text.proofs.BoolLaws.{or_left, or_right}
use Rattle.text.proofs.SameLaws.{eq_same}
use Rattle.layout.specs.Record.{record_key, is_type}
use Rattle.judging.specs.Names.{names_given}
use Rattle.judging.specs.Setting.{setting_of}
use Rattle.judging.proofs.NamesLaws.{names_none, names_skip}
use Rattle.turns.specs.Under.{is_under, details_under, IsKey}
use Rattle.turns.specs.Settings.{settings_of}
use Rattle.turns.proofs.UnderLaws.{IsRecord, record_key_lem}
use Rattle.turns.proofs.AppendLaws.{Agree, under_append}
use Rattle.effects.specs.Several.{any_b, any_record}

-- ---- B records and names

-- without a B record no name is given
names_without_b : (state : List ℕ) (recs : List (List ℕ)) → any_b recs ≡ false → names_given state recs ≡ []
unfolding any_b
names_without_b state [] e = names_none state
names_without_b state (rec ∷ recs) e =
    names_skip state rec recs (or_left (is_type B rec) (any_b recs) e)
    ∙ names_without_b state recs (or_right (is_type B rec) (any_b recs) e)

any_b-append : (xs ys : List (List ℕ)) → any_b (xs ++ ys) ≡ (any_b xs || any_b ys)
unfolding any_b
any_b-append [] ys = refl
any_b-append (x ∷ xs) ys = rw (any_b-append xs ys) (go (is_type B x))
  where
    go : (t : Bool) → (t || (any_b xs || any_b ys)) ≡ ((t || any_b xs) || any_b ys)
    go true = refl
    go false = refl

-- ---- whether there are records

-- 1 where there are, else 0
abbrev pub one_if_any : List (List ℕ) → ℕ
one_if_any recs = cond (any_record recs) 1 0

pub one_append : (xs ys : List (List ℕ)) → one_if_any (xs ++ ys) ≤ one_if_any xs + one_if_any ys
one_append [] ys = omega arith
one_append (x ∷ xs) ys = omega arith

pub no_records : (xs : List (List ℕ)) → one_if_any xs ≤ 0 → xs ≡ []
no_records [] h = refl
no_records (x ∷ xs) h = absurd (omega arith)

-- a detail is one of its key's
abbrev HasOwn : List (List ℕ) → List ℕ → Type 0
HasOwn xs detail = 1 ≤ one_if_any (details_under (record_key detail) xs)

pub all_map : (P Q : List ℕ → Type 0) → ((d : List ℕ) → P d → Q d) → (xs : List (List ℕ)) → All P xs → All Q xs
all_map P Q f [] a = tt
all_map P Q f (x ∷ xs) a = (f x a.0, all_map P Q f xs a.1)

pub all_both : (P Q R : List ℕ → Type 0) → ((d : List ℕ) → P d → Q d → R d) → (xs : List (List ℕ)) → All P xs → All Q xs → All R xs
all_both P Q R f [] a b = tt
all_both P Q R f (x ∷ xs) a b = (f x a.0 b.0, all_both P Q R f xs a.1 b.1)

pub has_own : (xs : List (List ℕ)) → All (HasOwn xs) xs
unfolding details_under
has_own [] = tt
has_own (x ∷ xs) = (first, all_map (HasOwn xs) (HasOwn (x ∷ xs)) (λ d h. later d h (is_under (record_key d) x)) xs (has_own xs))
  where
    first : 1 ≤ one_if_any (cond (is_under (record_key x) x) (x ∷ details_under (record_key x) xs) (details_under (record_key x) xs))
    first = rw (eq_same (record_key x) (record_key x) refl) (omega arith)

    later : (d : List ℕ) → 1 ≤ one_if_any (details_under (record_key d) xs) → (t : Bool)
        → 1 ≤ one_if_any (cond t (x ∷ details_under (record_key d) xs) (details_under (record_key d) xs))
    later d h true = omega arith
    later d h false = h

-- ---- the names of a part are those of the whole

-- under a key: where it has no B record, or no records before and behind the part
module _ (state key : List ℕ) (before part behind : List (List ℕ)) where
  abbrev whole : List (List ℕ)
  whole = before ++ (part ++ behind)

  whole_under : details_under key whole ≡ details_under key before ++ (details_under key part ++ details_under key behind)
  whole_under =
      under_append key before (part ++ behind)
      ∙ ap (λ (z : List (List ℕ)). details_under key before ++ z) (under_append key part behind)

  pub own_names : (any_b (details_under key (before ++ (part ++ behind))) ≡ true → (details_under key before ≡ []) × (details_under key behind ≡ []))
      → names_given state (details_under key part) ≡ names_given state (details_under key (before ++ (part ++ behind)))
  own_names alone = go (any_b (details_under key whole)) refl
    where
      go : (t : Bool) → any_b (details_under key whole) ≡ t
          → names_given state (details_under key part) ≡ names_given state (details_under key whole)
      go true e =
          let n = alone e in
          ap (names_given state)
          (sym (whole_under ∙ rw (n.0, n.1) (append-nil (details_under key part))))
      go false e =
          let f : (any_b (details_under key before) || any_b (details_under key part ++ details_under key behind)) ≡ false =
          sym (any_b-append (details_under key before) (details_under key part ++ details_under key behind)) ∙ sym (ap any_b whole_under) ∙ e in
          let g : (any_b (details_under key part) || any_b (details_under key behind)) ≡ false =
          sym (any_b-append (details_under key part) (details_under key behind))
          ∙ or_right (any_b (details_under key before)) (any_b (details_under key part ++ details_under key behind)) f in
          names_without_b state (details_under key part) (or_left (any_b (details_under key part)) (any_b (details_under key behind)) g)
          ∙ sym (names_without_b state (details_under key whole) e)

-- under the keys of its own details, where each key with a B record has records in one of the three at most
module _ (state : List ℕ) (year : ℕ) (list : List ℕ) (before part behind : List (List ℕ)) (records : All IsRecord part) where
  pub part-agrees :
      ((key : List ℕ) → IsKey key → any_b (details_under key (before ++ (part ++ behind))) ≡ true
      → one_if_any (details_under key before) + (one_if_any (details_under key part) + one_if_any (details_under key behind)) ≤ 1)
      → All (Agree (settings_of state year list part) (settings_of state year list (before ++ (part ++ behind)))) part
  part-agrees few =
      all_both IsRecord (HasOwn part) (Agree (settings_of state year list part) (settings_of state year list (before ++ (part ++ behind))))
      (λ d r h. ap (setting_of state year list) (own_names state (record_key d) before part behind (λ e. alone d r h e))) part records (has_own part)
    where
      alone : (d : List ℕ) → IsRecord d → HasOwn part d → any_b (details_under (record_key d) (before ++ (part ++ behind))) ≡ true
          → (details_under (record_key d) before ≡ []) × (details_under (record_key d) behind ≡ [])
      alone d r h e =
          let n = few (record_key d) (record_key_lem d r) e in (
            no_records (details_under (record_key d) before) (omega arith),
            no_records (details_under (record_key d) behind) (omega arith),
          )
