-- The codes of a state are a list as `apply` takes it: each is a good record's, so three digits, and the keys of one state stand in the
-- order of their codes. Assumes nothing.
use Prim.Native.Nat.{ℕ, ◌*◌, ◌/◌}
use mathlib.Core.Path.{◌≡◌, refl, sym, ap, ◌∙◌}
use mathlib.Core.Bool.{Bool, true, false, not, ◌&&◌, cond}
use mathlib.Core.List.{List, [], ◌∷◌, ◌++◌, map, append-nil}
use native.Mathlib.Omega.{arith}
use lib.ListN.{length, take, length-append}
use lib.Seq.{take_all, take_at}
use borrow.Author.Tests.{not-true}
use Rattle.text.specs.Fields.{every, all_digits, are_digits, same_bytes}
use Rattle.text.specs.Blocks.{blocks, joined, over}
use Rattle.text.specs.ByteOrder.{order_of, is_less, below_first, rising}
use Rattle.text.proofs.ByteOrderLaws.{order_front, less_trans}
use Rattle.text.proofs.FieldsLaws.{and_left, and_right, digits_width}
use Rattle.text.proofs.SameLaws.{same_eq}
use Rattle.text.proofs.WidthLaws.{All, blocks-joined}
use Rattle.layout.specs.Locals.{is_local_list}
use Rattle.layout.proofs.LocalsLaws.{digits_blocks, local_list}
use Rattle.text.proofs.BlocksLaws.{blocks_whole}
use Rattle.contactrecord.specs.ChartA3.{contact_state, contact_code, contact_key}
use Rattle.contactrecord.specs.Contact.{is_faulty}
use Rattle.contactrecord.proofs.ContactLaws.{good_key, key_code, key_parts}
use Rattle.contacttable.specs.Table.{contacts_of, is_wrong_table}
use Rattle.contacttable.specs.Codes.{is_local_of, local_codes, codes_refusal, codes_run, CodesOutcome, codes_outcome}
use Rattle.answers.proofs.AnswerLaws.{done_is}
use Rattle.contacttable.specs.CodesList.{CodesAreAList}
use Rattle.contacttable.proofs.TableLaws.{table_good, table_rises, right_table}

-- ---- each code is three digits

codes_digits : (state : List ℕ) (rows : List (List ℕ)) → every (λ rec. not (is_faulty rec)) rows ≡ true
    → every (are_digits 3) (local_codes state rows) ≡ true
unfolding local_codes
codes_digits state [] g = refl
codes_digits state (r ∷ rows) g =
    go (is_local_of state r)
    (key_code r (good_key r (not-true _ (and_left (not (is_faulty r)) (every (λ rec. not (is_faulty rec)) rows) g))))
    (codes_digits state rows (and_right (not (is_faulty r)) (every (λ rec. not (is_faulty rec)) rows) g))
  where
    go : (b : Bool) → are_digits 3 (contact_code r) ≡ true → every (are_digits 3) (local_codes state rows) ≡ true
        → every (are_digits 3) (cond b (contact_code r ∷ []) [] ++ local_codes state rows) ≡ true
    go true d i = rw (d, i)
    go false d i = i

-- ---- codes rise

module _ (state r : List ℕ) (s : contact_state r ≡ state) where
  -- a record of the state with a code below those that follow
  code_below : (rows : List (List ℕ)) → below_first (contact_key r) (map contact_key rows) ≡ true → rising (map contact_key rows) ≡ true
      → below_first (contact_code r) (local_codes state rows) ≡ true
  unfolding local_codes below_first rising is_local_of
  code_below [] b t = refl
  code_below (x ∷ rows) b t =
      go (same_bytes (contact_state x) state) (not (same_bytes (contact_code x) _)) refl
      (code_below rows (further rows (and_left (below_first (contact_key x) (map contact_key rows)) (rising (map contact_key rows)) t))
      (and_right (below_first (contact_key x) (map contact_key rows)) (rising (map contact_key rows)) t))
    where
      further : (ys : List (List ℕ)) → below_first (contact_key x) (map contact_key ys) ≡ true
          → below_first (contact_key r) (map contact_key ys) ≡ true
      further [] h = refl
      further (y ∷ ys) h = less_trans (contact_key r) (contact_key x) (contact_key y) b h

      go : (p q : Bool) → same_bytes (contact_state x) state ≡ p → below_first (contact_code r) (local_codes state rows) ≡ true
          → below_first (contact_code r) (cond (p && q) (contact_code x ∷ []) [] ++ local_codes state rows) ≡ true
      go true true e i =
          let h : order_of (contact_key r) (contact_key x) ≡ order_of (contact_code r) (contact_code x) =
          ap (λ (k : List ℕ). order_of k (contact_key x)) (key_parts r ∙ ap (λ (k : List ℕ). k ++ contact_code r) s)
          ∙ ap (λ (k : List ℕ). order_of (state ++ contact_code r) k)
          (key_parts x ∙ ap (λ (k : List ℕ). k ++ contact_code x) (same_eq (contact_state x) state e))
          ∙ order_front state (contact_code r) (contact_code x) in
          sym (ap is_less h) ∙ b
      go true false e i = i
      go false q e i = i

codes_rise : (state : List ℕ) (rows : List (List ℕ)) → rising (map contact_key rows) ≡ true → rising (local_codes state rows) ≡ true
unfolding local_codes rising is_local_of
codes_rise state [] t = refl
codes_rise state (r ∷ rows) t =
    go (same_bytes (contact_state r) state) (not (same_bytes (contact_code r) _)) refl
    (codes_rise state rows (and_right (below_first (contact_key r) (map contact_key rows)) (rising (map contact_key rows)) t))
  where
    go : (p q : Bool) → same_bytes (contact_state r) state ≡ p → rising (local_codes state rows) ≡ true
        → rising (cond (p && q) (contact_code r ∷ []) [] ++ local_codes state rows) ≡ true
    go true true e i =
        rw (code_below state r (same_eq (contact_state r) state e) rows
        (and_left (below_first (contact_key r) (map contact_key rows)) (rising (map contact_key rows)) t)
        (and_right (below_first (contact_key r) (map contact_key rows)) (rising (map contact_key rows)) t)) i
    go true false e i = i
    go false q e i = i

-- ---- codes written are a list

codes_wide : (cs : List (List ℕ)) → every (are_digits 3) cs ≡ true → All (λ (b : List ℕ). length b ≡ 3) cs
codes_wide [] d = tt
codes_wide (c ∷ cs) d =
    (digits_width 3 c (and_left (are_digits 3 c) (every (are_digits 3) cs) d), codes_wide cs (and_right (are_digits 3 c) (every (are_digits 3) cs) d))

length-codes : (cs : List (List ℕ)) → All (λ (b : List ℕ). length b ≡ 3) cs → length (joined cs) ≡ length cs * 3
unfolding joined
length-codes [] w = refl
length-codes (c ∷ cs) w = length-append c (joined cs) ∙ omega (arith, w.0, length-codes cs w.1)

codes_list : (cs : List (List ℕ)) → every (are_digits 3) cs ≡ true → rising cs ≡ true → is_local_list (joined cs) ≡ true
codes_list cs d r =
    let w = codes_wide cs d in
    let l = length-codes cs w in
    let q : length (joined cs) / 3 ≡ length cs = omega arith in
    let b : blocks 3 (length cs) (joined cs) ≡ cs =
    ap (blocks 3 (length cs)) (sym (append-nil (joined cs))) ∙ blocks-joined 3 cs [] w in
    let a : all_digits (joined cs) ≡ true =
    ap all_digits (sym (take_all (length cs * 3) (joined cs) (omega arith)))
    ∙ sym (digits_blocks 3 (length cs) (joined cs) (omega arith)) ∙ ap (every (are_digits 3)) b ∙ d in
    local_list (joined cs) (omega arith) ∙ (rw (a, q, blocks_whole 3 (length cs) (joined cs), b) r)

-- ---- the call

table_passed : (table : List ℕ) (count : ℕ) (state out : List ℕ) → codes_refusal table count state out ≡ 0 → is_wrong_table table count ≡ false
unfolding codes_refusal
table_passed table count state out e = go (is_wrong_table table count) _ e
  where
    go : (b : Bool) (behind : ℕ) → cond b 18 behind ≡ 0 → b ≡ false
    go true behind z = absurd (omega arith)
    go false behind z = refl

pub codes_are_a_list : CodesAreAList
unfolding codes_outcome over
codes_are_a_list table count state out o n e h =
    let codes = local_codes state (contacts_of count table) in
    let d = done_is (codes_refusal table count state out) out (codes_run table count state out) n (ap (λ (y : CodesOutcome). y.answer) (sym e) ∙ h) in
    let t = (right_table table count (table_passed table count state out d.0)).table in
    let s = codes_digits state (contacts_of count table) (table_good (contacts_of count table) t) in
    let l = length-codes codes (codes_wide codes s) in
    let f : length (joined codes) ≡ n * 3 = omega (arith, l, d.1) in
    let g : take (n * 3) o.buffers ≡ joined codes =
    ap (λ (y : CodesOutcome). take (n * 3) y.buffers) e ∙ ap (take (n * 3)) d.2 ∙ take_at (joined codes) _ (n * 3) f in
    ap is_local_list g ∙ codes_list codes s (codes_rise state (contacts_of count table) (table_rises (contacts_of count table) t))
