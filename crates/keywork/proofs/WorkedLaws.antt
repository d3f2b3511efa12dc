-- Laws of a run worked detail by detail. Assumes nothing.
use Prim.Native.Nat.{ℕ, suc, ◌+◌, ◌-◌, ◌≤◌, ◌<◌}
use mathlib.Core.Path.{◌≡◌, refl, sym, ap, ◌∙◌}
use mathlib.Core.Bool.{Bool, true, false, not}
use mathlib.Core.List.{List}
use mathlib.Core.Logic.{◌⊎◌, inl, inr}
use mathlib.Core.Option.{Option, none}
use native.Mathlib.Omega.{arith}
use borrow.Author.Tests.{ltb-true, ltb-false, not-false, eqb-true}
use lib.Dec.{eqb, ltb}
use lib.ListN.{length, get_or, set, length-set}
use lib.Seq.{get_or-set_same, get_or-set_other}
use Rattle.layout.specs.Batch.{record_at}
use Rattle.layout.specs.Codes.{number_of_codes}
use Rattle.judging.specs.Errors.{is_given}
use Rattle.judging.specs.Front.{front_errors, IsFront}
use Rattle.judging.specs.Setting.{Setting, setting_of}
use Rattle.judging.specs.Warnings.{warning51}
use Rattle.judging.specs.declared.front.FrontErrors.{FrontErrors}
use Rattle.judging.proofs.NamesLaws.{some_names}
use Rattle.onecase.specs.Known.{UnderKnown, IsStepIn}
use Rattle.onecase.specs.Machine.{row_of}
use Rattle.onecase.specs.declared.case.Case.{Case}
use Rattle.onecase.specs.declared.verdict.Verdict.{Verdict}
use Rattle.onecase.proofs.JudgementLaws.{alone_judged}
use Rattle.onecase.specs.Verdict.{judgement, meaning}
use Rattle.onecase.specs.Machine.{next}
use Rattle.keywork.specs.Packed.{Packed}
use Rattle.keyorder.specs.Tagged.{index_part, flag_local, flag_wrong, flag_given, record_in}
use Rattle.keywork.specs.Worked.{UnderTag, OneWorked, UnderTags, row_after, RunWorked, UnderAlone, AloneWorked}

-- no error where the flag says so
pub none_wrong : (n : ℕ) → false ≡ not (eqb n 0) → n ≡ 0
none_wrong n e = eqb-true n 0 (not-false (eqb n 0) (sym e))

-- ---- a run

module _ (setting : Setting) (batch numbers : List ℕ) (p : ℕ) (row : Option (List ℕ)) where
  pub after_none : row_after setting batch numbers p 0 row ≡ row
  unfolding row_after
  after_none = refl

  pub after_more : (n : ℕ) → row_after setting batch numbers p (suc n) row ≡ next setting (row_after setting batch numbers p n row) (record_in batch numbers (p + n))
  unfolding row_after
  after_more n = refl

module _ (setting : Setting) (batch : List ℕ) (p : ℕ) (row : Option (List ℕ)) (numbers : List ℕ) where
  pub run_none : RunWorked setting batch p p row row numbers numbers
  unfolding row_after
  run_none =
      let z : p - p ≡ 0 = omega arith in
      record {
        row_is = rw z;
        packed = λ q a b. absurd (omega arith);
        kept = λ q o. refl;
        width = refl;
      }

  pub run_step : (e x : ℕ) (r r' : Option (List ℕ)) (s : List ℕ) → p ≤ e → e < length numbers → RunWorked setting batch p e row r numbers s
      → r' ≡ next setting r (record_in batch numbers e)
      → Packed x (index_part (get_or numbers e 0)) (judgement setting r (record_in batch numbers e))
      → RunWorked setting batch p (e + 1) row r' numbers (set s e x)
  unfolding row_after
  run_step e x r r' s h l w er ex =
      let m : e + 1 - p ≡ suc (e - p) = omega arith in
      let v : p + (e - p) ≡ e = omega arith in
      let le : e < length s = rw w.width l in
      record {
        row_is = er ∙ rw (m, v) (ap (λ (o : Option (List ℕ)). next setting o (record_in batch numbers e)) w.row_is);
        packed = λ q a b. at q a b le (ltb q e) refl;
        kept = λ q o. rw (get_or-set_other s e q x 0 (apart q o)) (w.kept q (far q o));
        width = length-set s e x ∙ w.width;
      }
    where
      apart : (q : ℕ) → (q < p) ⊎ (e + 1 ≤ q) → q ≡ e → ⊥
      apart q (inl a) z = omega arith
      apart q (inr a) z = omega arith

      far : (q : ℕ) → (q < p) ⊎ (e + 1 ≤ q) → (q < p) ⊎ (e ≤ q)
      far q (inl a) = inl a
      far q (inr a) = inr (omega arith)

      at : (q : ℕ) → p ≤ q → q < e + 1 → e < length s → (b : Bool) → ltb q e ≡ b
          → Packed (get_or (set s e x) q 0) (index_part (get_or numbers q 0))
          (judgement setting (row_after setting batch numbers p (q - p) row) (record_in batch numbers q))
      at q a b le true f =
          let k = ltb-true q e f in
          rw (get_or-set_other s e q x 0 (λ (z : q ≡ e). omega arith)) (w.packed q a k)
      at q a b le false f =
          let k : q ≡ e = omega (arith, ltb-false q e f) in
          rw (k, get_or-set_same s e x 0 le, ← w.row_is) ex

-- ---- one detail, as the code puts it together

pub work_one : (state : List ℕ) (year : ℕ) (list batch : List ℕ) (x i : ℕ) (rec : List ℕ) (row : Option (List ℕ))
    (f : FrontErrors) (local given : Bool) (left : Case) (v : Verdict) (n : ℕ)
    → i ≡ index_part x → rec ≡ record_at batch i
    → (flag_wrong x ≡ not (eqb (number_of_codes (front_errors state year list rec)) 0) → IsFront state year list rec f)
    → local ≡ flag_local x → given ≡ flag_given x
    → UnderKnown f local given list rec (λ setting. IsStepIn setting row rec left v)
    → Packed n i (meaning v)
    → UnderTag state year list (record_at batch (index_part x)) x
    (λ setting. OneWorked setting row (record_at batch (index_part x)) (index_part x) (row_of left) n)
work_one state year list batch x i rec row f local given left v n ei er hf el eg hs hp names k g =
    let e : record_at batch (index_part x) ≡ rec = ap (record_at batch) (sym ei) ∙ sym er in
    let w : flag_wrong x ≡ not (eqb (number_of_codes (front_errors state year list rec)) 0) = rw e at k.wrong_is in
    let l : flag_local x ≡ warning51 list rec = rw e at k.local_is in
    let m : flag_given x ≡ is_given names rec = rw e at g in
    let s = hs state year (hf w) (λ z. el ∙ l) names (eg ∙ m) in
    record {
      row_is = rw e s.row_is;
      packed = rw (e, ← ei, ← s.verdict_is) hp;
    }

-- ---- one detail more of a run

pub run_turn : (state : List ℕ) (year : ℕ) (list batch : List ℕ) (p e q : ℕ) (row r left : Option (List ℕ)) (numbers s : List ℕ) (a : ℕ)
    → p ≤ q → q < e → e ≤ length numbers → get_or s q 0 ≡ get_or numbers q 0
    → UnderTags state year list batch numbers p e (λ setting. RunWorked setting batch p q row r numbers s)
    → UnderTag state year list (record_at batch (index_part (get_or s q 0))) (get_or s q 0)
    (λ setting. OneWorked setting r (record_at batch (index_part (get_or s q 0))) (index_part (get_or s q 0)) left a)
    → UnderTags state year list batch numbers p e (λ setting. RunWorked setting batch p (q + 1) row left numbers (set s q a))
run_turn state year list batch p e q row r left numbers s a lp le room same run one names kn mk =
    let o = one names (rw same (kn q lp le)) (rw same (mk q lp le)) in
    let setting = setting_of state year list names in
    run_step setting batch p row numbers q a r left s lp (omega arith) (run names kn mk)
    (rw same at o.row_is) (rw same at o.packed)

-- ---- details on no row

module _ (state : List ℕ) (year : ℕ) (list batch : List ℕ) (p : ℕ) (numbers : List ℕ) where
  pub alone_none : (e : ℕ) → UnderAlone state year list batch numbers p e (λ setting. AloneWorked setting batch p p numbers numbers)
  alone_none e names kn = record { packed = λ q a b. absurd (omega arith); kept = λ q o. refl; width = refl }

  -- one detail more: of its own mark there are names, and on no row all names judge alike
  pub alone_turn : (e q : ℕ) (s : List ℕ) (left : Option (List ℕ)) (a : ℕ)
      → p ≤ q → q < e → e ≤ length numbers → get_or s q 0 ≡ get_or numbers q 0
      → UnderAlone state year list batch numbers p e (λ setting. AloneWorked setting batch p q numbers s)
      → UnderTag state year list (record_at batch (index_part (get_or s q 0))) (get_or s q 0)
      (λ setting. OneWorked setting none (record_at batch (index_part (get_or s q 0))) (index_part (get_or s q 0)) left a)
      → UnderAlone state year list batch numbers p e (λ setting. AloneWorked setting batch p (q + 1) numbers (set s q a))
  alone_turn e q s left a lp le room same run one names kn =
      let w = run names kn in
      let t = some_names (record_in batch numbers q) (flag_given (get_or numbers q 0)) in
      let o = one t.0 (rw same (kn q lp le)) (rw same t.1) in
      let pl : Packed a (index_part (get_or numbers q 0)) (judgement (setting_of state year list t.0) none (record_in batch numbers q)) =
      rw same at o.packed in
      let pm : Packed a (index_part (get_or numbers q 0)) (judgement (setting_of state year list names) none (record_in batch numbers q)) =
      rw (alone_judged state year list (record_in batch numbers q) t.0 names) at pl in
      let ls : q < length s = rw w.width (omega arith) in
      record {
        packed = λ k b c. at k b c ls pm w (ltb k q) refl;
        kept = λ k o. rw (get_or-set_other s q k a 0 (apart k o)) (w.kept k (far k o));
        width = length-set s q a ∙ w.width;
      }
    where
      apart : (k : ℕ) → (k < p) ⊎ (q + 1 ≤ k) → k ≡ q → ⊥
      apart k (inl b) z = omega arith
      apart k (inr b) z = omega arith

      far : (k : ℕ) → (k < p) ⊎ (q + 1 ≤ k) → (k < p) ⊎ (q ≤ k)
      far k (inl b) = inl b
      far k (inr b) = inr (omega arith)

      at : (k : ℕ) → p ≤ k → k < q + 1 → q < length s
          → Packed a (index_part (get_or numbers q 0)) (judgement (setting_of state year list names) none (record_in batch numbers q))
          → AloneWorked (setting_of state year list names) batch p q numbers s
          → (b : Bool) → ltb k q ≡ b
          → Packed (get_or (set s q a) k 0) (index_part (get_or numbers k 0)) (judgement (setting_of state year list names) none (record_in batch numbers k))
      at k b c ls pm w true f =
          let l = ltb-true k q f in
          rw (get_or-set_other s q k a 0 (λ (z : k ≡ q). omega arith)) (w.packed k b l)
      at k b c ls pm w false f =
          let l : k ≡ q = omega (arith, ltb-false k q f) in
          rw (l, get_or-set_same s q a 0 ls) pm
