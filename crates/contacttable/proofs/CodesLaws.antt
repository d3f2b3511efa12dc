-- Laws of the codes of one state, from one record to the next. Assumes nothing.
use mathlib.Core.Path.{◌≡◌, refl, sym, ap, ◌∙◌}
use mathlib.Core.Bool.{Bool, true, false, cond}
use mathlib.Core.List.{List, [], ◌∷◌, ◌++◌, append_assoc, append-nil}
use Prim.Native.Nat.{ℕ, suc, ◌+◌, ◌*◌, ◌≤◌, ◌<◌}
use native.Mathlib.Omega.{arith}
use lib.ListN.{length, take, drop, length-append, length-take, length-drop, take-append-drop}
use lib.Seq.{drop-drop, length-take-le}
use borrow.Author.Tests.{le-ltb, lt-ltb}
use Rattle.std.specs.List.{filter}
use Rattle.answers.specs.Refusal.{refusal_number_of}
use Rattle.answers.specs.declared.refusal.Refusal.{Refusal}
use Rattle.answers.specs.declared.refusal.Refusal.TheVariants.{WrongState, WrongContacts, ShortContacts}
use Rattle.answers.proofs.AnswerLaws.{outcome_done}
use Rattle.answers.proofs.RefusalLaws.{outcome_err}
use Rattle.std.specs.Prelude.{Ok, Err}
use Rattle.text.specs.Blocks.{joined, spliced, over}
use Rattle.layout.specs.States.{is_state}
use Rattle.text.proofs.SplicedLaws.{length-spliced, take_through, drop-spliced}
use Rattle.contactrecord.specs.ChartA3.{contact_code}
use Rattle.contacttable.specs.Table.{contacts_of, is_wrong_table}
use Rattle.contacttable.specs.Codes.{is_local_of, local_codes, codes_refusal, codes_as, codes_run, codes_outcome}
use Rattle.contacttable.proofs.TableLaws.{contact_at, contacts_next, contacts_end}
use Rattle.text.proofs.WidthLaws.{joined-append}

-- ---- one record

pub one_code : (state rec : List ℕ) → local_codes state (rec ∷ []) ≡ cond (is_local_of state rec) (contact_code rec ∷ []) []
unfolding local_codes
one_code state rec = append-nil (cond (is_local_of state rec) (contact_code rec ∷ []) [])

one_wide : (state rec : List ℕ) → length rec ≡ 220 → length (joined (local_codes state (rec ∷ []))) ≡ length (local_codes state (rec ∷ [])) * 3
unfolding joined
one_wide state rec l = rw (one_code state rec) (go (is_local_of state rec))
  where
    go : (b : Bool) → length (joined (cond b (contact_code rec ∷ []) [])) ≡ length (cond b (contact_code rec ∷ []) []) * 3
    go true = rw append-nil (simp (length-take, length-drop) (omega arith))
    go false = refl

-- ---- the record at i

module _ (state : List ℕ) (n : ℕ) (m : List ℕ) (i : ℕ) where
  pub codes-next : i < n → local_codes state (drop i (contacts_of n m)) ≡ local_codes state (contact_at m i ∷ []) ++ local_codes state (drop (i + 1) (contacts_of n m))
  unfolding local_codes
  codes-next h = rw (contacts_next n m i h, append-nil)

  pub codes_end : n ≤ i → local_codes state (drop i (contacts_of n m)) ≡ []
  unfolding local_codes
  codes_end h = rw (contacts_end n m i h)

-- as many codes as records of the state with one
pub count_local : (state : List ℕ) (table : List (List ℕ)) → length (filter (is_local_of state) table) ≡ length (local_codes state table)
unfolding local_codes
count_local state [] = refl
count_local state (rec ∷ table) = go (is_local_of state rec) (count_local state table)
  where
    go : (b : Bool) → length (filter (is_local_of state) table) ≡ length (local_codes state table)
        → length (cond b (rec ∷ filter (is_local_of state) table) (filter (is_local_of state) table))
        ≡ length (cond b (contact_code rec ∷ []) [] ++ local_codes state table)
    go true h = ap suc h
    go false h = h

-- ---- codes written

-- what is written and what is to be written are all the codes; behind it the output is kept
pub record CodesWriting (state : List ℕ) (n : ℕ) (m before after : List ℕ) (k i : ℕ) : Type 0 where
  pub whole : take (k * 3) after ++ joined (local_codes state (drop i (contacts_of n m))) ≡ joined (local_codes state (contacts_of n m))
  pub kept : drop (k * 3) after ≡ drop (k * 3) before
  pub wide : length after ≡ length before
  pub number : k + length (local_codes state (drop i (contacts_of n m))) ≡ length (local_codes state (contacts_of n m))

pub codes_start : (state : List ℕ) (n : ℕ) (m before : List ℕ) → CodesWriting state n m before before 0 0
codes_start state n m before = record { whole = refl; kept = refl; wide = refl; number = omega arith }

module _ (state : List ℕ) (n : ℕ) (m before after : List ℕ) (k i : ℕ) (g : CodesWriting state n m before after k i) (h : i < n)
    (space : length (local_codes state (contacts_of n m)) * 3 ≤ length before) where
  next_count : length (local_codes state (drop i (contacts_of n m))) ≡ length (local_codes state (contact_at m i ∷ [])) + length (local_codes state (drop (i + 1) (contacts_of n m)))
  next_count = ap length (codes-next state n m i h) ∙ length-append (local_codes state (contact_at m i ∷ [])) (local_codes state (drop (i + 1) (contacts_of n m)))

  pub codes_room : (k + length (local_codes state (contact_at m i ∷ []))) * 3 ≤ length after
  codes_room = omega (arith, next_count, g.number, g.wide)

  pub codes_write : length (contact_at m i) ≡ 220
      → CodesWriting state n m before (spliced after (k * 3) (joined (local_codes state (contact_at m i ∷ [])))) (k + length (local_codes state (contact_at m i ∷ []))) (i + 1)
  codes_write l =
      let c = joined (local_codes state (contact_at m i ∷ [])) in
      let lc = one_wide state (contact_at m i) l in
      let e : (k + length (local_codes state (contact_at m i ∷ []))) * 3 ≡ k * 3 + length (joined (local_codes state (contact_at m i ∷ []))) = omega arith in
      let r = codes_room in
      let at : k * 3 ≤ length after = omega arith in
      record {
        whole =
            ap (λ (z : List ℕ). z ++ joined (local_codes state (drop (i + 1) (contacts_of n m))))
            (take_through after (k * 3) (joined (local_codes state (contact_at m i ∷ []))) ((k + length (local_codes state (contact_at m i ∷ []))) * 3) at e)
            ∙ append_assoc (take (k * 3) after) (joined (local_codes state (contact_at m i ∷ []))) (joined (local_codes state (drop (i + 1) (contacts_of n m))))
            ∙ ap (λ (z : List ℕ). take (k * 3) after ++ z)
            (sym (joined-append (local_codes state (contact_at m i ∷ [])) (local_codes state (drop (i + 1) (contacts_of n m)))) ∙ ap joined (sym (codes-next state n m i h)))
            ∙ g.whole;
        kept =
            drop-spliced after (k * 3) (joined (local_codes state (contact_at m i ∷ []))) ((k + length (local_codes state (contact_at m i ∷ []))) * 3) at (omega arith)
            ∙ further (length (local_codes state (contact_at m i ∷ [])) * 3) (omega arith);
        wide = length-spliced after (k * 3) (joined (local_codes state (contact_at m i ∷ []))) (omega arith) ∙ g.wide;
        number = omega (arith, next_count, g.number);
      }
    where
      further : (d : ℕ) → (k + length (local_codes state (contact_at m i ∷ []))) * 3 ≡ k * 3 + d
          → drop ((k + length (local_codes state (contact_at m i ∷ []))) * 3) after ≡ drop ((k + length (local_codes state (contact_at m i ∷ []))) * 3) before
      further d e = rw e (sym (drop-drop d (k * 3) after) ∙ ap (drop d) g.kept ∙ drop-drop d (k * 3) before)

pub codes_done : (state : List ℕ) (n : ℕ) (m before after : List ℕ) (k i : ℕ) → CodesWriting state n m before after k i → n ≤ i
    → length (local_codes state (contacts_of n m)) * 3 ≤ length before → after ≡ over (joined (local_codes state (contacts_of n m))) before
unfolding joined over
codes_done state n m before after k i g h space =
    let z = codes_end state n m i h in
    let e : k ≡ length (local_codes state (contacts_of n m)) = omega (arith, ap length z, g.number) in
    let w : joined (local_codes state (contacts_of n m)) ≡ take (k * 3) after =
    sym (sym (append-nil (take (k * 3) after)) ∙ ap (λ (y : List (List ℕ)). take (k * 3) after ++ joined y) (sym z) ∙ g.whole) in
    let l : length (joined (local_codes state (contacts_of n m))) ≡ k * 3 = ap length w ∙ length-take-le (k * 3) after (omega (arith, g.wide)) in
    rw (l, w, ← g.kept) (sym (take-append-drop (k * 3) after))

-- ---- the outcome

module _ (table : List ℕ) (count : ℕ) (state out : List ℕ) where
  codes_refused : (r : Refusal) → codes_refusal table count state out ≡ refusal_number_of r → codes_as (Err r) out ≡ codes_outcome table count state out
  unfolding codes_outcome
  codes_refused r e = outcome_err _ out (codes_run table count state out) r (sym e)

  pub codes_18 : is_wrong_table table count ≡ true → codes_as (Err WrongContacts) out ≡ codes_outcome table count state out
  unfolding codes_refusal
  codes_18 t = codes_refused WrongContacts (rw t)

  module _ (t : is_wrong_table table count ≡ false) where
    pub codes_12 : is_state state ≡ false → codes_as (Err WrongState) out ≡ codes_outcome table count state out
    unfolding codes_refusal
    codes_12 s = codes_refused WrongState (rw (t, s))

    module _ (s : is_state state ≡ true) where
      pub codes_19 : length out < length (local_codes state (contacts_of count table)) * 3
          → codes_as (Err ShortContacts) out ≡ codes_outcome table count state out
      unfolding codes_refusal
      codes_19 l = codes_refused ShortContacts (rw (t, s, lt-ltb (length out) (length (local_codes state (contacts_of count table)) * 3) l))

      pub codes_carried : length (local_codes state (contacts_of count table)) * 3 ≤ length out → (n : ℕ) (after : List ℕ)
          → n ≡ length (local_codes state (contacts_of count table)) → after ≡ over (joined (local_codes state (contacts_of count table))) out
          → codes_as (Ok n) after ≡ codes_outcome table count state out
      unfolding codes_outcome codes_refusal
      codes_carried l n after en ea =
          rw (en, ea)
          (outcome_done (codes_refusal table count state out) out (codes_run table count state out)
          (rw (t, s, le-ltb (length out) (length (local_codes state (contacts_of count table)) * 3) l)))

-- ---- a record whose code is written, and one whose isn't

pub one_not : (state rec : List ℕ) → is_local_of state rec ≡ false
    → (length (local_codes state (rec ∷ [])) ≡ 0) × (joined (local_codes state (rec ∷ [])) ≡ [])
unfolding joined
one_not state rec e = let w : local_codes state (rec ∷ []) ≡ [] = one_code state rec ∙ (rw e) in (ap length w, ap joined w)

pub one_is : (state rec : List ℕ) → length rec ≡ 220 → is_local_of state rec ≡ true
    → (length (local_codes state (rec ∷ [])) ≡ 1) × (joined (local_codes state (rec ∷ [])) ≡ contact_code rec) × (length (contact_code rec) ≡ 3)
unfolding joined
one_is state rec l e =
    let w : local_codes state (rec ∷ []) ≡ contact_code rec ∷ [] = one_code state rec ∙ (rw e) in
    (ap length w, ap joined w ∙ append-nil (contact_code rec), simp (length-take, length-drop) (omega arith))
