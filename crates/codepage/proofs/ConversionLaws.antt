-- Laws of converting: where a file stops, whatever is said of a byte; and what a table's entries make of a file that passes.
-- Assumes nothing.
use Prim.Native.Nat.{ℕ, suc, ◌+◌, ◌≤◌, ◌<◌}
use mathlib.Core.Path.{◌≡◌, refl, sym, ap, ◌∙◌}
use mathlib.Core.List.{List, [], ◌∷◌, ◌++◌}
use mathlib.Core.Bool.{Bool, true, false, not, cond}
use mathlib.Core.Option.{Option, none, some}
use native.Mathlib.Omega.{arith}
use lib.ListN.{length, get_or, drop}
use lib.Dec.{eqb, ltb}
use Rattle.std.specs.Prelude.{Some, None, Ok, Err, position}
use Rattle.std.specs.List.{position_or_len}
use borrow.Author.Tests.{ltb-true, ltb-false, lt-ltb, le-ltb}
use Rattle.answers.specs.Answer.{Answer, refused, done, NoResult, Outcome, Run, outcome_by}
use Rattle.answers.proofs.AnswerLaws.{outcome_refused, outcome_done}
use Rattle.text.specs.Blocks.{over}
use Rattle.codepage.specs.Tables.{code_in, entries_of}
use Rattle.codepage.specs.Conversion.{place_behind, place_without, counterparts, conversion_refusal, conversion_run, conversion_outcome, converted_as, place_found}
use Rattle.codepage.specs.declared.conversion.ConversionError.TheVariants.{NoCounterpart, TooShort}
use Rattle.codepage.proofs.TablesLaws.{code-entry}

-- ---- the place of the first byte without a counterpart, by a table: the first entry that is 0

found-behind : (n m c : ℕ) → place_found (cond (ltb (suc n) (suc m)) (Some (suc n)) None) ≡ place_behind (some c) (place_found (cond (ltb n m) (Some n) None))
found-behind n m c = go (ltb n m) refl
  where
    go : (t : Bool) → ltb n m ≡ t
        → place_found (cond (ltb (suc n) (suc m)) (Some (suc n)) None) ≡ place_behind (some c) (place_found (cond (ltb n m) (Some n) None))
    go true e = let h = ltb-true n m e in rw (e, lt-ltb (suc n) (suc m) (omega arith))
    go false e = let h = ltb-false n m e in rw (e, le-ltb (suc n) (suc m) (omega arith))

pub place_by_table : (table s : List ℕ) → place_found (position (λ b. eqb (get_or table b 0) 0) s) ≡ place_without (code_in table) s
unfolding place_without code_in
place_by_table table [] = refl
place_by_table table (b ∷ bs) = go (eqb (get_or table b 0) 0) (position_or_len (λ x. eqb (get_or table x 0) 0) bs) (place_by_table table bs)
  where
    go : (t : Bool) (n : ℕ) → place_found (cond (ltb n (length bs)) (Some n) None) ≡ place_without (code_in table) bs
        → place_found (cond (ltb (cond (not t) (1 + n) 0) (suc (length bs))) (Some (cond (not t) (1 + n) 0)) None)
        ≡ place_behind (cond t none (some (get_or table b 0))) (place_without (code_in table) bs)
    go true n r = rw (lt-ltb 0 (suc (length bs)) (omega arith))
    go false n r =
        let z : 1 + n ≡ suc n = omega arith in
        rw z (found-behind n (length bs) (get_or table b 0) ∙ ap (place_behind (some (get_or table b 0))) r)

-- ---- a file that passes: each byte has a counterpart, and so has each of the rest

behind_head : (o q : Option ℕ) → place_behind o q ≡ none → (c : ℕ) × (o ≡ some c)
behind_head none q e = let z : ◌≡◌ {A = ℕ} 0 1 = cc in absurd (omega arith)
behind_head (some c) q e = (c, refl)

behind_tail : (o q : Option ℕ) → place_behind o q ≡ none → q ≡ none
behind_tail none q e = cc
behind_tail (some c) none e = refl
behind_tail (some c) (some p) e = cc

module _ (code : ℕ → Option ℕ) (b : ℕ) (bs : List ℕ) (e : place_without code (b ∷ bs) ≡ none) where
  pub passes_head : (c : ℕ) × (code b ≡ some c)
  unfolding place_without
  passes_head = behind_head (code b) (place_without code bs) e

  pub passes_tail : place_without code bs ≡ none
  unfolding place_without
  passes_tail = behind_tail (code b) (place_without code bs) e

-- as many counterparts as bytes
pub length-counterparts : (code : ℕ → Option ℕ) (s : List ℕ) → place_without code s ≡ none → length (counterparts code s) ≡ length s
unfolding counterparts
length-counterparts code [] e = refl
length-counterparts code (b ∷ bs) e =
    rw (passes_head code b bs e).1 (ap suc (length-counterparts code bs (passes_tail code b bs e)))

-- by a table they are its entries
pub counterparts_entries : (table s : List ℕ) → place_without (code_in table) s ≡ none → counterparts (code_in table) s ≡ entries_of table s
unfolding counterparts entries_of
counterparts_entries table [] e = refl
counterparts_entries table (b ∷ bs) e =
    let h = passes_head (code_in table) b bs e in
    rw (h.1, code-entry table b h.0 h.1) (ap (λ (l : List ℕ). h.0 ∷ l) (counterparts_entries table bs (passes_tail (code_in table) b bs e)))

-- ---- the place of a byte without a counterpart lies inside

inside_behind : (n : ℕ) (o q : Option ℕ) → ((p : ℕ) → q ≡ some p → p < n) → (p : ℕ) → place_behind o q ≡ some p → p < suc n
inside_behind n none q h p e = let z : 0 ≡ p = cc in omega arith
inside_behind n (some c) none h p e = let z : ◌≡◌ {A = ℕ} 0 1 = cc in absurd (omega arith)
inside_behind n (some c) (some r) h p e = let z : suc r ≡ p = cc in omega (arith, h r refl)

pub bad_inside : (code : ℕ → Option ℕ) (s : List ℕ) (p : ℕ) → place_without code s ≡ some p → p < length s
unfolding place_without
bad_inside code [] p e = let z : ◌≡◌ {A = ℕ} 0 1 = cc in absurd (omega arith)
bad_inside code (b ∷ bs) p e = inside_behind (length bs) (code b) (place_without code bs) (bad_inside code bs) p e

-- ---- the outcome, in the order of the refusals

module _ (code : ℕ → Option ℕ) (input out : List ℕ) where
  abbrev run : Run NoResult (List ℕ)
  run = conversion_run code input out

  -- where every byte has a counterpart there is no place to give, and 17 alone is left
  conversion_by : (answer : Answer NoResult) (left : List ℕ) → place_without code input ≡ none
      → record { answer = answer; buffers = left } ≡ outcome_by (conversion_refusal code input out) out run
      → record { outcome = record { answer = answer; buffers = left }; place = none } ≡ conversion_outcome code input out
  unfolding conversion_outcome
  conversion_by answer left e o = rw e (ap (λ (q : Outcome NoResult (List ℕ)). record { outcome = q; place = none }) o)

  pub conversion_16 : (p : ℕ) → place_without code input ≡ some p → converted_as (Err (NoCounterpart p)) out ≡ conversion_outcome code input out
  unfolding conversion_outcome conversion_refusal
  conversion_16 p w =
      let o : record { answer = refused 16; buffers = out } ≡ outcome_by (conversion_refusal code input out) out run =
      outcome_refused (conversion_refusal code input out) out run 16 (sym (rw w)) (λ z. omega arith) in
      ap (λ (q : Outcome NoResult (List ℕ)). record { outcome = q; place = some p }) o
      ∙ ap (λ (q : Option ℕ). record { outcome = outcome_by (conversion_refusal code input out) out run; place = q }) (sym w)

  pub conversion_17 : place_without code input ≡ none → length out < length input → converted_as (Err TooShort) out ≡ conversion_outcome code input out
  unfolding conversion_refusal
  conversion_17 e l =
      conversion_by (refused 17) out e (outcome_refused (conversion_refusal code input out) out run 17 (sym (rw (e, lt-ltb _ _ l))) (λ z. omega arith))

  pub conversion_done : place_without code input ≡ none → length input ≤ length out
      → converted_as (Ok tt) (over (counterparts code input) out) ≡ conversion_outcome code input out
  unfolding conversion_refusal
  conversion_done e l =
      conversion_by (done tt) (over (counterparts code input) out) e
      (outcome_done (conversion_refusal code input out) out run (rw (e, le-ltb _ _ l)))

-- by a table
pub conversion_entries : (table input out left : List ℕ) → place_without (code_in table) input ≡ none → length input ≤ length out
    → left ≡ entries_of table input ++ drop (length input) out → converted_as (Ok tt) left ≡ conversion_outcome (code_in table) input out
unfolding over
conversion_entries table input out left e l w =
    let s : left ≡ over (counterparts (code_in table) input) out =
    w ∙ rw (length-counterparts (code_in table) input e, counterparts_entries table input e) in
    ap (converted_as (Ok tt)) s ∙ conversion_done (code_in table) input out e l
