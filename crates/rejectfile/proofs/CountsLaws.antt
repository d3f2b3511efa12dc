-- Laws of the counts: what one detail adds, counts added up, and the control record of the reject file. Assumes nothing.
use Prim.Native.Nat.{ℕ, ◌+◌, ◌-◌, ◌≤◌}
use mathlib.Core.Path.{◌≡◌, refl, sym, ap, ◌∙◌}
use mathlib.Core.Bool.{Bool, true, false, not, cond, ◌&&◌, ◌||◌, and-true, and-false}
use mathlib.Core.List.{List, [], ◌∷◌}
use native.Mathlib.Nat.{add_comm, add-zero}
use native.Mathlib.Omega.{arith}
use lib.Dec.{eqb, lit≤}
use lib.ListN.{length}
use borrow.Author.Tests.{eqb-true}
use Rattle.text.specs.Fields.{digit_field, spaces, placed}
use Rattle.onecase.specs.Verdict.{Judgement, is_rejected, is_warned}
use Rattle.rejectfile.specs.Counts.{Counts, is_tanf, is_non_tanf, how_many, counts_of, control_record}
use Rattle.rejectfile.specs.declared.counts.Tally.{Tally}
use Rattle.rejectfile.specs.Tally.{plus, one_detail, no_counts, all_accepted, start_tally, counts_in}
use Rattle.text.proofs.ColumnsWritten.{Written, written_none, written-field, written_digits, written_kept}
use Rattle.batchfile.specs.Totals.{CTL, count_of}
use Rattle.batchfile.specs.TotalsParts.{count_in}
use Rattle.batchfile.proofs.TotalsLaws.{count_sum}
use Rattle.text.specs.Characters.{A, N}
use Rattle.layout.specs.Record.{case_type_of}

-- ---- counts added up

-- one detail more in front
pub counts_cons : (d : List ℕ) (ds : List (List ℕ)) (j : Judgement) (js : List Judgement)
    → counts_of (d ∷ ds) (j ∷ js) ≡ plus (one_detail d (is_rejected j) (is_warned j)) (counts_of ds js)
unfolding counts_of how_many one_detail
counts_cons d ds j js = refl

pub counts_none : (js : List Judgement) → counts_of [] js ≡ no_counts
unfolding counts_of how_many
counts_none js = refl

pub plus_none : (a : Counts) → plus a no_counts ≡ a
plus_none a = simp add-zero

pub plus_comm : (a b : Counts) → plus a b ≡ plus b a
plus_comm a b =
    rw (
      add_comm a.accepted_tanf b.accepted_tanf,
      add_comm a.rejected_tanf b.rejected_tanf,
      add_comm a.accepted_non_tanf b.accepted_non_tanf,
      add_comm a.rejected_non_tanf b.rejected_non_tanf,
      add_comm a.warned_tanf b.warned_tanf,
      add_comm a.warned_non_tanf b.warned_non_tanf,
      add_comm a.neither b.neither,
    )

-- what a detail adds in place of what stood for it
cancelled : (r c s d k w m : ℕ) → r + c ≡ s + d → s + (d + k) ≡ w + (c + m) → r + k ≡ w + m
cancelled r c s d k w m e f = omega arith

pub plus_cancel : (r c s d k w m : Counts) → plus r c ≡ plus s d → plus s (plus d k) ≡ plus w (plus c m) → plus r k ≡ plus w m
plus_cancel r c s d k w m e f =
    let by : (g : Counts → ℕ) → (g r + g c ≡ g s + g d) → (g s + (g d + g k) ≡ g w + (g c + g m)) → g r + g k ≡ g w + g m =
    λ g. cancelled (g r) (g c) (g s) (g d) (g k) (g w) (g m) in
    rw (
      by (λ (x : Counts). x.accepted_tanf) (ap (λ (x : Counts). x.accepted_tanf) e) (ap (λ (x : Counts). x.accepted_tanf) f),
      by (λ (x : Counts). x.rejected_tanf) (ap (λ (x : Counts). x.rejected_tanf) e) (ap (λ (x : Counts). x.rejected_tanf) f),
      by (λ (x : Counts). x.accepted_non_tanf) (ap (λ (x : Counts). x.accepted_non_tanf) e) (ap (λ (x : Counts). x.accepted_non_tanf) f),
      by (λ (x : Counts). x.rejected_non_tanf) (ap (λ (x : Counts). x.rejected_non_tanf) e) (ap (λ (x : Counts). x.rejected_non_tanf) f),
      by (λ (x : Counts). x.warned_tanf) (ap (λ (x : Counts). x.warned_tanf) e) (ap (λ (x : Counts). x.warned_tanf) f),
      by (λ (x : Counts). x.warned_non_tanf) (ap (λ (x : Counts). x.warned_non_tanf) e) (ap (λ (x : Counts). x.warned_non_tanf) f),
      by (λ (x : Counts). x.neither) (ap (λ (x : Counts). x.neither) e) (ap (λ (x : Counts). x.neither) f),
    )

-- ---- all accepted

-- a detail is of one case type at most
one_type : (x : ℕ) → cond (eqb x A) 1 0 + (cond (eqb x N) 1 0 + cond (not (eqb x A || eqb x N)) 1 0) ≡ 1
one_type x = go (eqb x A) (eqb x N) refl refl
  where
    go : (a n : Bool) → eqb x A ≡ a → eqb x N ≡ n → cond a 1 0 + (cond n 1 0 + cond (not (a || n)) 1 0) ≡ 1
    go true true e f = let z : ◌≡◌ {A = ℕ} 0xC1 0xD5 = sym (eqb-true x A e) ∙ eqb-true x N f in omega arith
    go true false e f = refl
    go false true e f = refl
    go false false e f = refl

-- how many there are of each case type, and of neither
pub record AcceptedAre (details : List (List ℕ)) : Type 0 where
  pub tanf : (all_accepted details).accepted_tanf ≡ count_of A details
  pub non_tanf : (all_accepted details).accepted_non_tanf ≡ count_of N details
  pub all : count_of A details + (count_of N details + (all_accepted details).neither) ≡ length details
  pub tanf_rejected : (all_accepted details).rejected_tanf ≡ 0
  pub non_tanf_rejected : (all_accepted details).rejected_non_tanf ≡ 0
  pub tanf_warned : (all_accepted details).warned_tanf ≡ 0
  pub non_tanf_warned : (all_accepted details).warned_non_tanf ≡ 0

pub accepted_are : (details : List (List ℕ)) → AcceptedAre details
unfolding all_accepted one_detail
accepted_are [] =
    let a = (count_sum A).none in
    let n = (count_sum N).none in
    record {
      tanf = sym a;
      non_tanf = sym n;
      all = omega (arith, a, n);
      tanf_rejected = refl;
      non_tanf_rejected = refl;
      tanf_warned = refl;
      non_tanf_warned = refl;
    }
accepted_are (detail ∷ details) =
    let h = accepted_are details in
    let x = case_type_of detail in
    let right : (b : Bool) → cond {A = ℕ} (b && not false) 1 0 ≡ cond {A = ℕ} b 1 0 = λ b. ap (λ (z : Bool). cond {A = ℕ} z 1 0) (and-true b) in
    let wrong : (b : Bool) → cond {A = ℕ} (b && false) 1 0 ≡ 0 = λ b. ap (λ (z : Bool). cond {A = ℕ} z 1 0) (and-false b) in
    let a = (count_sum A).more detail details in
    let n = (count_sum N).more detail details in
    record {
      tanf = rw (right (eqb x A), h.tanf) (sym a);
      non_tanf = rw (right (eqb x N), h.non_tanf) (sym n);
      all = omega (arith, a, n, one_type x, h.all);
      tanf_rejected = rw (wrong (eqb x A), h.tanf_rejected);
      non_tanf_rejected = rw (wrong (eqb x N), h.non_tanf_rejected);
      tanf_warned = rw (wrong (eqb x A), h.tanf_warned);
      non_tanf_warned = rw (wrong (eqb x N), h.non_tanf_warned);
    }

-- so that they are what the work starts with
pub start_accepted : (details : List (List ℕ)) → counts_in (start_tally (count_of A details) (count_of N details) (length details)) ≡ all_accepted details
start_accepted details =
    let h = accepted_are details in
    let n : length details - count_of A details - count_of N details ≡ (all_accepted details).neither = omega (arith, h.all) in
    rw (n, ← h.tanf, ← h.non_tanf, h.tanf_rejected, h.non_tanf_rejected, h.tanf_warned, h.non_tanf_warned)

-- no more of both case types than details
pub types_few : (details : List (List ℕ)) → count_of A details + count_of N details ≤ length details
types_few details = omega (arith, (accepted_are details).all)

-- ---- a detail moved

-- out of the accepted, where it is of a case type and stands among them
pub moved_out : (x : ℕ) (b a : Bool) → cond b 1 0 ≤ x → x - cond (b && not a) 1 0 + cond (b && not false) 1 0 ≡ x + cond (b && not (not a)) 1 0
moved_out x true true l = omega arith
moved_out x true false l = omega arith
moved_out x false a l = omega arith

still : (x : ℕ) (b : Bool) → x + cond (b && false) 1 0 ≡ x
still x true = add-zero x
still x false = add-zero x

-- all counts with it moved
pub moved_counts : (t : Tally) (detail : List ℕ) (a : Bool) (out non_out warned non_warned : ℕ)
    → out ≡ cond (is_tanf detail && not a) 1 0
    → non_out ≡ cond (is_non_tanf detail && not a) 1 0
    → warned ≡ cond (is_tanf detail && a) 1 0
    → non_warned ≡ cond (is_non_tanf detail && a) 1 0
    → count_in A detail ≤ t.tanf_accepted
    → count_in N detail ≤ t.non_tanf_accepted
    → plus
    (counts_in
    (record {
      tanf_accepted = t.tanf_accepted - out;
      tanf_rejected = t.tanf_rejected + out;
      non_tanf_accepted = t.non_tanf_accepted - non_out;
      non_tanf_rejected = t.non_tanf_rejected + non_out;
      tanf_warned = t.tanf_warned + warned;
      non_tanf_warned = t.non_tanf_warned + non_warned;
      neither = t.neither;
    }))
    (one_detail detail false false)
    ≡ plus (counts_in t) (one_detail detail (not a) a)
unfolding one_detail
moved_counts t detail a out non_out warned non_warned e f g h l m =
    let x = is_tanf detail in
    let y = is_non_tanf detail in
    rw (
      e,
      f,
      g,
      h,
      moved_out t.tanf_accepted x a l,
      moved_out t.non_tanf_accepted y a m,
      still (t.tanf_rejected + cond (x && not a) 1 0) x,
      still (t.non_tanf_rejected + cond (y && not a) 1 0) y,
      still (t.tanf_warned + cond (x && a) 1 0) x,
      still (t.non_tanf_warned + cond (y && a) 1 0) y,
    )

-- no more are taken out of a case type than the detail itself
pub out_few : (b a : Bool) → cond (b && a) 1 0 ≤ cond {A = ℕ} b 1 0
out_few true true = omega arith
out_few true false = omega arith
out_few false a = omega arith

-- a count with one more at most
pub count_most : (x n y : ℕ) → x ≤ n → y ≤ 1 → x + y ≤ n + 1
count_most x n y h o = omega arith

-- ---- the control record

module _ (state : List ℕ) (counts : Counts) (two : length state ≡ 2) where
  -- its fields placed one after the other in a blank record
  pub control-written : (a b c d e f g h : List ℕ)
      → a ≡ placed 1 2 state (spaces 245)
      → b ≡ placed 3 5 CTL a
      → c ≡ placed 6 14 (digit_field 9 counts.accepted_tanf) b
      → d ≡ placed 15 23 (digit_field 9 counts.rejected_tanf) c
      → e ≡ placed 24 32 (digit_field 9 counts.accepted_non_tanf) d
      → f ≡ placed 33 41 (digit_field 9 counts.rejected_non_tanf) e
      → g ≡ placed 42 50 (digit_field 9 counts.warned_tanf) f
      → h ≡ placed 51 59 (digit_field 9 counts.warned_non_tanf) g
      → Written 245 (control_record state counts) (spaces 245) h
  unfolding control_record
  control-written a b c d e f g h ea eb ec ed ee ef eg eh =
      let z : 2 ≡ 0 + length state = omega arith in
      let w1 = written-field (written_none (spaces 245)) 1 2 state ea refl z (lit≤ tt) in
      let w2 = written-field w1 3 5 CTL eb refl refl (lit≤ tt) in
      let w3 = written_digits w2 6 14 9 counts.accepted_tanf ec refl refl (lit≤ tt) in
      let w4 = written_digits w3 15 23 9 counts.rejected_tanf ed refl refl (lit≤ tt) in
      let w5 = written_digits w4 24 32 9 counts.accepted_non_tanf ee refl refl (lit≤ tt) in
      let w6 = written_digits w5 33 41 9 counts.rejected_non_tanf ef refl refl (lit≤ tt) in
      let w7 = written_digits w6 42 50 9 counts.warned_tanf eg refl refl (lit≤ tt) in
      let w8 = written_digits w7 51 59 9 counts.warned_non_tanf eh refl refl (lit≤ tt) in
      written_kept w8 60 245 refl (lit≤ tt) (lit≤ tt)

  pub length-control : length (control_record state counts) ≡ 245
  length-control = (control-written _ _ _ _ _ _ _ _ refl refl refl refl refl refl refl refl).wide
