-- Laws of a text contained, an extension and the runs of letters. Assumes nothing.
use mathlib.Core.Path.{◌≡◌, refl, sym, ap, subst, ◌∙◌}
use mathlib.Core.Bool.{Bool, true, false, not, ◌&&◌, ◌||◌, cond, and-true, or-true, or-false, or_assoc}
use mathlib.Core.List.{List, [], ◌∷◌, ◌++◌, append-nil}
use Prim.Native.Nat.{ℕ, zero, suc, ◌+◌, ◌≤◌, ◌<◌}
use native.Mathlib.Omega.{arith}
use lib.ListN.{length, get_or, take, drop, take-append-drop}
use lib.Dec.{eqb, eqb-suc-zero, leb}
use lib.Seq.{take_all, take-append_seam, append_snoc}
use Rattle.std.specs.List.{fold, list_any, onto_first, position_or_len, slice_split}
use Rattle.std.specs.Slice.Iter.{windows_steps, windows_rest, windows_size}
use Rattle.std.specs.declared.slice.Windows.{Windows}
use Rattle.std.proofs.lemmas.Bool.{le-leb, leb-false, leb-true, lt-leb}
use Rattle.std.proofs.lemmas.Iterator.{YieldsList}
use Rattle.std.proofs.lemmas.Iterator.Splits.{YieldsList-from_shown_while}
use Rattle.text.specs.Characters.{is_digit, is_letter}
use Rattle.text.specs.Fields.{same_bytes, is_one_of, is_blank, unless_empty}
use Rattle.text.proofs.FieldsLaws.{and_left, and_right}
use Rattle.text.proofs.SameLaws.{same_lengths, same_self, same_eq}
use Rattle.contactrecord.specs.Wording.{starts_with, contains, runs_from, has_run}
use Rattle.contactrecord.specs.Contact.{is_extension}

-- ---- a text contained

pub starts_short : (text s : List ℕ) → length s < length text → starts_with text s ≡ false
unfolding starts_with
starts_short text s h =
    rw (take_all (length text) s (omega arith)) (same_lengths s text (λ e. omega arith))

pub starts_none : (text s : List ℕ) → length text ≡ 0 → starts_with text s ≡ true
unfolding starts_with same_bytes
starts_none [] s h = refl
starts_none (x ∷ text) s h = absurd (omega arith)

-- a text longer than the bytes
pub contains_short : (text s : List ℕ) → length s < length text → contains text s ≡ false
unfolding contains
contains_short text [] h = refl
contains_short text (b ∷ s) h = rw (starts_short text (b ∷ s) h) (contains_short text s (omega arith))

-- the parts of n bytes that begin at each place
abbrev pub windows_in : ℕ → List ℕ → List (List ℕ)
windows_in n [] = []
windows_in n (b ∷ s) = cond (leb n (length (b ∷ s))) (take n (b ∷ s) ∷ windows_in n s) []

windows_none : (n : ℕ) (s : List ℕ) → length s < n → length (windows_in n s) ≡ 0
windows_none n [] h = refl
windows_none n (b ∷ s) h = rw (lt-leb n (length (b ∷ s)) h)

windows_more : (n : ℕ) (s : List ℕ) → 0 < n → n ≤ length s → windows_in n s ≡ take n s ∷ windows_in n (drop 1 s)
windows_more n [] some h = absurd (omega arith)
windows_more n (b ∷ s) some h = rw (le-leb n (length (b ∷ s)) h)

-- what the library's windows of n bytes yield
pub windows_yielded : (w : Windows ℕ) (n : ℕ) (s : List ℕ) → 0 < n → windows_size w ≡ n → windows_rest w ≡ s
    → YieldsList (windows_steps {A = ℕ}) (λ x. x.now) w (windows_in n s)
windows_yielded w n s some e f =
    subst (λ (r : List ℕ). YieldsList (windows_steps {A = ℕ}) (λ x. x.now) w (windows_in n r)) f
    (YieldsList-from_shown_while windows_steps (λ x. x.now) (λ t. windows_in n (windows_rest t)) (λ t. windows_size t ≡ n)
    (λ t u h k. windows_none n (windows_rest t) (omega (arith, k.1.0)))
    (λ t x u h k. (
      k.0 ∙ h,
      windows_more n (windows_rest t) some (omega (arith, k.1.0))
          ∙ (λ i. sym (k.1.1 ∙ ap (λ m. take m (windows_rest t)) h) i ∷ windows_in n (sym k.1.2 i)),
    ))
    w e)

-- a text, which isn't empty, is contained where one of the windows as long is the text
pub contains_any : (text s : List ℕ) → 0 < length text → list_any (λ w. same_bytes w text) (windows_in (length text) s) ≡ contains text s
unfolding contains starts_with
contains_any text [] n = refl
contains_any text (b ∷ s) n = go (leb (length text) (length (b ∷ s))) refl (contains_any text s n)
  where
    go : (t : Bool) → leb (length text) (length (b ∷ s)) ≡ t → list_any (λ w. same_bytes w text) (windows_in (length text) s) ≡ contains text s
        → list_any (λ w. same_bytes w text) (cond t (take (length text) (b ∷ s) ∷ windows_in (length text) s) []) ≡ contains text (b ∷ s)
    go true e h = rw h
    go false e h = sym (contains_short text (b ∷ s) (leb-false (length text) (length (b ∷ s)) e))

-- a text of no bytes
pub contains_none : (text s : List ℕ) → length text ≡ 0 → contains text s ≡ not (eqb (length s) 0)
unfolding contains
contains_none text [] e = refl
contains_none text (b ∷ s) e = rw (starts_none text (b ∷ s) e, eqb-suc-zero (length s))

-- a text contained behind other bytes
pub contains-behind : (text a s : List ℕ) → contains text s ≡ true → contains text (a ++ s) ≡ true
unfolding contains
contains-behind text [] s t = t
contains-behind text (b ∷ a) s t = rw (contains-behind text a s t) (or-true (starts_with text (b ∷ a ++ s)))

-- a text, which isn't empty, with other bytes behind it
pub contains-front : (text s : List ℕ) → 0 < length text → contains text (text ++ s) ≡ true
unfolding contains starts_with
contains-front [] s h = absurd (omega arith)
contains-front (b ∷ text) s h = rw (take-append_seam (b ∷ text) s, same_self (b ∷ text))

-- the three bytes of a word, each looked at by itself
abbrev pub are_three : List ℕ → List ℕ → Bool
are_three word s = eqb (get_or s 0 0) (get_or word 0 0) && (eqb (get_or s 1 0) (get_or word 1 0) && eqb (get_or s 2 0) (get_or word 2 0))

-- the same at the place i
abbrev pub three_at : List ℕ → List ℕ → ℕ → Bool
three_at word s i =
    eqb (get_or s i 0) (get_or word 0 0) && (eqb (get_or s (i + 1) 0) (get_or word 1 0) && eqb (get_or s (i + 2) 0) (get_or word 2 0))

pub three_first : (word s : List ℕ) → three_at word s 0 ≡ are_three word s
three_first word s = refl

starts_three : (word s : List ℕ) → length word ≡ 3 → 3 ≤ length s → starts_with word s ≡ are_three word (take 3 s)
unfolding starts_with same_bytes
starts_three [] s n h = absurd (omega (arith, n))
starts_three (a ∷ []) s n h = absurd (omega (arith, n))
starts_three (a ∷ b ∷ []) s n h = absurd (omega (arith, n))
starts_three (a ∷ b ∷ c ∷ d ∷ word) s n h = absurd (omega (arith, n))
starts_three (a ∷ b ∷ c ∷ []) [] n h = absurd (omega arith)
starts_three (a ∷ b ∷ c ∷ []) (x ∷ []) n h = absurd (omega arith)
starts_three (a ∷ b ∷ c ∷ []) (x ∷ y ∷ []) n h = absurd (omega arith)
starts_three (a ∷ b ∷ c ∷ []) (x ∷ y ∷ z ∷ s) n h = ap (λ (t : Bool). eqb x a && (eqb y b && t)) (and-true (eqb z c))

-- seen before, or contained
pub three_seen : (word s : List ℕ) (seen : Bool) → length word ≡ 3 → fold (λ t w. t || are_three word w) seen (windows_in 3 s) ≡ (seen || contains word s)
unfolding contains
three_seen word [] seen n = sym (or-false seen)
three_seen word (b ∷ s) seen n = go (leb 3 (length (b ∷ s))) refl (three_seen word s (seen || are_three word (take 3 (b ∷ s))) n)
  where
    go : (t : Bool) → leb 3 (length (b ∷ s)) ≡ t
        → fold (λ t w. t || are_three word w) (seen || are_three word (take 3 (b ∷ s))) (windows_in 3 s) ≡ (seen || are_three word (take 3 (b ∷ s)) || contains word s)
        → fold (λ t w. t || are_three word w) seen (cond t (take 3 (b ∷ s) ∷ windows_in 3 s) []) ≡ (seen || contains word (b ∷ s))
    go true e h =
        h
        ∙ or_assoc seen (are_three word (take 3 (b ∷ s))) (contains word s)
        ∙ ap (λ (t : Bool). seen || (t || contains word s)) (sym (starts_three word (b ∷ s) n (leb-true 3 (length (b ∷ s)) e)))
    go false e h = rw (contains_short word (b ∷ s) (let l = leb-false 3 (length (b ∷ s)) e in omega (arith, n))) (sym (or-false seen))

-- ---- an extension

-- spaces from the first byte on that is no digit
pub extension_is : (s : List ℕ) → is_extension s ≡ is_blank (drop (position_or_len (λ b. not (is_digit b)) s) s)
unfolding is_extension is_blank
extension_is [] = refl
extension_is (b ∷ s) = go (is_digit b) (extension_is s)
  where
    go : (d : Bool) → is_extension s ≡ is_blank (drop (position_or_len (λ b. not (is_digit b)) s) s)
        → cond d (is_extension s) (is_blank (b ∷ s)) ≡ is_blank (drop (cond (not (not d)) (1 + position_or_len (λ b. not (is_digit b)) s) 0) (b ∷ s))
    go true h =
        let n = position_or_len (λ b. not (is_digit b)) s in
        let e : suc n ≡ 1 + n = omega arith in
        h ∙ ap (λ (k : ℕ). is_blank (drop k (b ∷ s))) e
    go false h = refl

-- ---- runs of letters

one_unless : (word run : List ℕ) (rest : List (List ℕ)) → 0 < length word
    → is_one_of word (unless_empty run rest) ≡ (same_bytes word run || is_one_of word rest)
unfolding is_one_of
one_unless word [] rest h = rw (same_lengths word [] (λ e. omega arith))
one_unless word (b ∷ run) rest h = refl

-- a run read before, in front of the first of some parts
onto : List ℕ → List (List ℕ) → List (List ℕ)
onto run [] = run ∷ []
onto run (part ∷ parts) = (run ++ part) ∷ parts

onto_longer : (run : List ℕ) (b : ℕ) (parts : List (List ℕ)) → onto (run ++ b ∷ []) parts ≡ onto run (onto_first b parts)
unfolding onto
onto_longer run b [] = refl
onto_longer run b (part ∷ parts) = ap (λ (r : List ℕ). r ∷ parts) (append_snoc run b part)

onto_none : (word : List ℕ) (parts : List (List ℕ)) → 0 < length word → list_any (same_bytes word) (onto [] parts) ≡ list_any (same_bytes word) parts
unfolding onto
onto_none word [] n = rw (same_lengths word [] (λ e. omega arith))
onto_none word (part ∷ parts) n = refl

-- the parts between the bytes that are no letters
abbrev pub letter_parts : List ℕ → List (List ℕ)
letter_parts s = slice_split (λ b. not (is_letter b)) s

-- the word is one of the runs where it is one of those parts
split_runs : (word run s : List ℕ) → 0 < length word
    → is_one_of word (runs_from run s) ≡ list_any (same_bytes word) (onto run (letter_parts s))
unfolding runs_from onto is_one_of
split_runs word run [] n = one_unless word run [] n ∙ rw (append-nil run)
split_runs word run (b ∷ bs) n = go (is_letter b) (split_runs word (run ++ b ∷ []) bs n) (split_runs word [] bs n)
  where
    go : (l : Bool) → is_one_of word (runs_from (run ++ b ∷ []) bs) ≡ list_any (same_bytes word) (onto (run ++ b ∷ []) (letter_parts bs))
        → is_one_of word (runs_from [] bs) ≡ list_any (same_bytes word) (onto [] (letter_parts bs))
        → is_one_of word (cond l (runs_from (run ++ b ∷ []) bs) (unless_empty run (runs_from [] bs)))
        ≡ list_any (same_bytes word) (onto run (cond (not l) ([] ∷ (letter_parts bs)) (onto_first b (letter_parts bs))))
    go true longer next = longer ∙ ap (list_any (same_bytes word)) (onto_longer run b (letter_parts bs))
    go false longer next =
        one_unless word run (runs_from [] bs) n
        ∙ rw (append-nil run) (ap (λ (t : Bool). same_bytes word run || t) (next ∙ onto_none word (letter_parts bs) n))

pub has_run-split : (word s : List ℕ) → 0 < length word → list_any (same_bytes word) (letter_parts s) ≡ has_run word s
unfolding has_run
has_run-split word s n = sym (split_runs word [] s n ∙ onto_none word (letter_parts s) n)

-- a run that is the word, and the bytes behind it
contains_run : (word run s : List ℕ) → 0 < length word → same_bytes word run ≡ true → contains word (run ++ s) ≡ true
contains_run word run s n t = rw (← same_eq word run t) (contains-front word s n)

-- a word among the runs, of which the first starts with a run read before, is contained in that run with the bytes behind it
run_contained : (word run bs : List ℕ) → 0 < length word → is_one_of word (runs_from run bs) ≡ true → contains word (run ++ bs) ≡ true
unfolding runs_from is_one_of
run_contained word run [] n t =
    contains_run word run [] n (sym (or-false (same_bytes word run)) ∙ sym (one_unless word run [] n) ∙ t)
run_contained word run (b ∷ bs) n t = go (is_letter b) t (λ r u. run_contained word r bs n u)
  where
    other : (p q : Bool) → same_bytes word run ≡ p → is_one_of word (runs_from [] bs) ≡ q → (p || q) ≡ true
        → ((r : List ℕ) → is_one_of word (runs_from r bs) ≡ true → contains word (r ++ bs) ≡ true) → contains word (run ++ b ∷ bs) ≡ true
    other true q e f u r = contains_run word run (b ∷ bs) n e
    other false true e f u r = rw (append_snoc run b bs) at (contains-behind word (run ++ b ∷ []) bs (r [] f))
    other false false e f u r = cc

    go : (l : Bool) → is_one_of word (cond l (runs_from (run ++ b ∷ []) bs) (unless_empty run (runs_from [] bs))) ≡ true
        → ((r : List ℕ) → is_one_of word (runs_from r bs) ≡ true → contains word (r ++ bs) ≡ true) → contains word (run ++ b ∷ bs) ≡ true
    go true u r = rw (append_snoc run b bs) at (r (run ++ b ∷ []) u)
    go false u r = other (same_bytes word run) (is_one_of word (runs_from [] bs)) refl refl (sym (one_unless word run (runs_from [] bs) n) ∙ u) r

-- a field that doesn't contain the word doesn't have it as a run
pub not_contained : (word s : List ℕ) → 0 < length word → contains word s ≡ false → has_run word s ≡ false
unfolding has_run
not_contained word s n f = go (is_one_of word (runs_from [] s)) refl
  where
    go : (b : Bool) → is_one_of word (runs_from [] s) ≡ b → b ≡ false
    go true e = sym (run_contained word [] s n e) ∙ f
    go false e = refl

-- ---- a text contained in a part

starts_take : (text s : List ℕ) (n : ℕ) → same_bytes (take (length text) (take n s)) text ≡ true → same_bytes (take (length text) s) text ≡ true
unfolding same_bytes
starts_take [] s n t = refl
starts_take (x ∷ text) [] zero t = t
starts_take (x ∷ text) [] (suc n) t = t
starts_take (x ∷ text) (y ∷ s) zero t = cc
starts_take (x ∷ text) (y ∷ s) (suc n) t =
    rw (and_left (eqb y x) (same_bytes (take (length text) (take n s)) text) t)
    (starts_take text s n (and_right (eqb y x) (same_bytes (take (length text) (take n s)) text) t))

-- in the front
contains-take : (text s : List ℕ) (n : ℕ) → contains text (take n s) ≡ true → contains text s ≡ true
unfolding contains starts_with
contains-take text [] zero t = t
contains-take text [] (suc n) t = t
contains-take text (b ∷ s) zero t = cc
contains-take text (b ∷ s) (suc n) t = go (starts_with text (b ∷ take n s)) refl t (contains-take text s n)
  where
    go : (p : Bool) → starts_with text (b ∷ take n s) ≡ p → (p || contains text (take n s)) ≡ true
        → (contains text (take n s) ≡ true → contains text s ≡ true)
        → (starts_with text (b ∷ s) || contains text s) ≡ true
    go true e u k = rw (starts_take text (b ∷ s) (suc n) e)
    go false e u k = rw (k u) (or-true (starts_with text (b ∷ s)))

-- anywhere
pub contains-part : (text s : List ℕ) (k n : ℕ) → contains text (take n (drop k s)) ≡ true → contains text s ≡ true
contains-part text s k n t =
    rw (take-append-drop k s) at (contains-behind text (take k s) (drop k s) (contains-take text (drop k s) n t))
