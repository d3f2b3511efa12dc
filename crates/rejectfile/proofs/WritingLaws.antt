-- The loop that writes verdicts out of the numbers that hold them: what stands in the buffers and what is left to write make the whole.
-- From the start, over one detail, to the end. Assumes nothing.
use Prim.Native.Nat.{ℕ, ◌+◌, ◌*◌, ◌^◌, ◌≤◌, ◌<◌}
use mathlib.Core.Path.{◌≡◌, refl, sym, ap, ◌∙◌, subst}
use mathlib.Core.Bool.{Bool, true, false, not, ◌&&◌, not-not, and-true, and-false}
use mathlib.Core.List.{List, [], ◌∷◌, ◌++◌, append_assoc, append-nil}
use native.Mathlib.Nat.{add-zero}
use native.Mathlib.Numerals.{add-one}
use native.Mathlib.Omega.{arith}
use lib.Dec.{eqb}
use lib.ListN.{length, take, drop, get_or, set, drop_of_length-le}
use lib.Seq.{take-suc-set, drop-set-lt, drop-cons, get_or-drop}
use borrow.Author.Tests.{ne_eqb}
use Rattle.text.specs.Blocks.{blocks}
use Rattle.layout.specs.Codes.{number_of_codes}
use Rattle.text.proofs.BlocksLaws.{length-blocks, blocks-next, kept_further}
use Rattle.layout.proofs.CodesLaws.{number-codes}
use Rattle.text.specs.Characters.{A, N}
use Rattle.batchfile.specs.Totals.{count_of}
use Rattle.batchfile.specs.TotalsParts.{count_in}
use Rattle.batchfile.proofs.TotalsLaws.{count_sum}
use Rattle.onecase.specs.Verdict.{Judgement, is_empty, is_rejected, is_warned, meaning, says_accepted, no_judgement}
use Rattle.onecase.specs.declared.verdict.Verdict.{Verdict}
use Rattle.judging.proofs.CodeSums.{number_none}
use Rattle.onecase.proofs.JudgedLaws.{Judged, judged, rejected_some}
use Rattle.keywork.specs.Packed.{Packed, IsMachineJudgement, IsVerdictIn, HoldsVerdicts}
use Rattle.rejectfile.specs.Rejects.{number_of, numbers, reject_record, if_any, reject_records}
use Rattle.rejectfile.specs.Counts.{Counts, counts_of}
use Rattle.rejectfile.specs.Tally.{counts_in, plus, one_detail, AtMost, added_by, all_accepted, start_tally, CodedAtMost}
use Rattle.rejectfile.specs.Answers.{set_in}
use Rattle.rejectfile.specs.Written.{VerdictsWritten}
use Rattle.rejectfile.specs.declared.counts.Tally.{Tally}
use Rattle.rejectfile.specs.declared.verdicts.Progress.{Progress}
use Rattle.rejectfile.proofs.RejectsLaws.{codes_in}
use Rattle.rejectfile.proofs.CountsLaws.{counts_cons, plus_comm, plus_cancel, counts_none, plus_none, start_accepted, types_few}
use Rattle.rejectfile.specs.Recorded.{Recorded}

-- the first number of what is kept is kept
kept_first : (a b : List ℕ) (i : ℕ) → drop i a ≡ drop i b → get_or a i 0 ≡ get_or b i 0
kept_first a b i e =
    let g : (x : List ℕ) → get_or (drop i x) 0 0 ≡ get_or x i 0 = λ x. get_or-drop i x 0 0 ∙ ap (λ (z : ℕ). get_or x z 0) (add-zero i) in
    sym (g a) ∙ ap (λ (x : List ℕ). get_or x 0 0) e ∙ g b

-- ---- a verdict and what it stands for

pub any_code : (cs : List ℕ) → eqb (number_of_codes cs) 0 ≡ is_empty cs
any_code [] = refl
any_code (c ∷ cs) = ne_eqb (number_of_codes (c ∷ cs)) 0 (λ e. let z : ◌≡◌ {A = ℕ} 0 1 = cc (number_none (c ∷ cs) e) in omega arith)

-- warned: accepted, with a code
judged_warned : (j : Judgement) → IsMachineJudgement j → is_warned j ≡ (not (is_rejected j) && not (is_empty j.codes))
judged_warned j g = (subst (Judged g.row) g.judged (judged g.setting g.row g.rec)).warned

module _ (v : Verdict) (j : Judgement) (e : meaning v ≡ j) (f : set_in v < 2 ^ 64) where
  pub set-number : set_in v ≡ number_of j
  set-number = sym (number-codes (set_in v) f) ∙ ap number_of_codes (sym (codes_in v)) ∙ ap number_of e

  adds_accepted : (rec : List ℕ) → says_accepted v ≡ not (is_rejected j) → IsMachineJudgement j
      → one_detail rec (not (says_accepted v)) (says_accepted v && not (eqb (set_in v) 0)) ≡ one_detail rec (is_rejected j) (is_warned j)
  adds_accepted rec a g =
      let r : not (says_accepted v) ≡ is_rejected j = ap not a ∙ not-not (is_rejected j) in
      let w : (says_accepted v && not (eqb (set_in v) 0)) ≡ is_warned j =
      ap (λ (b : Bool). b && not (eqb (set_in v) 0)) a
      ∙ ap (λ (n : ℕ). not (is_rejected j) && not (eqb n 0)) set-number
      ∙ ap (λ (b : Bool). not (is_rejected j) && not b) (any_code j.codes)
      ∙ sym (judged_warned j g) in
      ap (λ (b : Bool). one_detail rec b (says_accepted v && not (eqb (set_in v) 0))) r ∙ ap (one_detail rec (is_rejected j)) w

  -- without a code there is no error
  not_rejected : eqb (set_in v) 0 ≡ true → is_rejected j ≡ false
  not_rejected z =
      let none : j.codes ≡ [] = go j.codes (sym (any_code j.codes) ∙ ap (λ (n : ℕ). eqb n 0) (sym set-number) ∙ z) in
      by (is_rejected j) refl none
    where
      go : (cs : List ℕ) → is_empty cs ≡ true → cs ≡ []
      go [] e = refl
      go (c ∷ cs) e = cc

      by : (b : Bool) → is_rejected j ≡ b → j.codes ≡ [] → b ≡ false
      by true t none = absurd (rejected_some j t none)
      by false t none = refl

  pub adds-verdict : (rec : List ℕ) → says_accepted v ≡ not (is_rejected j) → IsMachineJudgement j
      → added_by rec (says_accepted v) (not (eqb (set_in v) 0)) ≡ one_detail rec (is_rejected j) (is_warned j)
  adds-verdict rec a g = go (eqb (set_in v) 0) refl
    where
      go : (z : Bool) → eqb (set_in v) 0 ≡ z → added_by rec (says_accepted v) (not z) ≡ one_detail rec (is_rejected j) (is_warned j)
      go true z =
          let r = not_rejected z in
          let w : is_warned j ≡ false = judged_warned j g ∙ rw (← any_code j.codes, ← set-number, z, and-false (not (is_rejected j))) in
          rw (r, w)
      go false z =
          ap (one_detail rec (not (says_accepted v))) (sym (and-true (says_accepted v)) ∙ rw z)
          ∙ adds_accepted rec a g

-- ---- the invariant

-- what stands in the buffers and what is left to write of the verdicts; the details left are counted as accepted
pub record LeftOf (details : List (List ℕ)) (verdicts : List Judgement) (v rj : List ℕ) (k : ℕ) (t : Tally) (i : ℕ) : Type 0 where
  pub numbers_same : take i v ++ numbers (drop i verdicts) ≡ numbers verdicts
  pub rejects_same : blocks 245 k rj ++ reject_records (drop i details) (drop i verdicts) ≡ reject_records details verdicts
  pub counts_same : plus (counts_in t) (counts_of (drop i details) (drop i verdicts)) ≡ plus (counts_of details verdicts) (all_accepted (drop i details))

-- those left stand among the accepted, and no count of these passes n
pub record Holding (details : List (List ℕ)) (n : ℕ) (t : Tally) : Type 0 where
  pub tanf : count_of A details ≤ t.tanf_accepted
  pub non_tanf : count_of N details ≤ t.non_tanf_accepted
  pub tanf_few : t.tanf_accepted ≤ n
  pub non_tanf_few : t.non_tanf_accepted ≤ n
  pub neither_few : t.neither ≤ n

pub record Writing (rows : ℕ) (batch : List ℕ) (d : ℕ) (v₀ rj₀ v rj : List ℕ) (s : Progress) (i : ℕ) : Type 0 where
  pub turns : i ≤ d
  pub rows_is : s.rows ≡ rows
  pub len_v : length v ≡ length v₀
  pub len_r : length rj ≡ length rj₀
  pub used : s.rejects ≤ i
  pub coded : CodedAtMost i s.tally
  pub accepted : Holding (drop i (blocks 245 d batch)) d s.tally
  pub kept_v : drop i v ≡ drop i v₀
  pub kept_r : drop (s.rejects * 245) rj ≡ drop (s.rejects * 245) rj₀
  pub left : (verdicts : List Judgement) → HoldsVerdicts d v₀ verdicts → LeftOf (blocks 245 d batch) verdicts v rj s.rejects s.tally i

module _ (rows : ℕ) (batch : List ℕ) (d : ℕ) (v₀ rj₀ : List ℕ) where
  abbrev ds : List (List ℕ)
  ds = blocks 245 d batch

  count : length ds ≡ d
  count = length-blocks 245 d batch

  abbrev start : Tally
  start = start_tally (count_of A ds) (count_of N ds) d

  -- no more of both case types than details
  pub types_fit : (tanf non_tanf : ℕ) → tanf ≡ count_of A ds → non_tanf ≡ count_of N ds → tanf + non_tanf ≤ d
  types_fit tanf non_tanf a n = omega (arith, types_few ds, count, a, n)

  left_start : (verdicts : List Judgement) → LeftOf ds verdicts v₀ rj₀ 0 start 0
  unfolding blocks
  left_start verdicts =
      let e : counts_in start ≡ all_accepted ds = ap (λ (z : ℕ). counts_in (start_tally (count_of A ds) (count_of N ds) z)) (sym count) ∙ start_accepted ds in
      record {
        numbers_same = refl;
        rejects_same = refl;
        counts_same = ap (λ (z : Counts). plus z (counts_of ds verdicts)) e ∙ plus_comm (all_accepted ds) (counts_of ds verdicts);
      }

  start_holds : Holding ds d start
  start_holds =
      let f = types_few ds in
      record {
        tanf = omega arith;
        non_tanf = omega arith;
        tanf_few = omega (arith, f, count);
        non_tanf_few = omega (arith, f, count);
        neither_few = omega arith;
      }

  module _ (tanf non_tanf : ℕ) (ta : tanf ≡ count_of A ds) (na : non_tanf ≡ count_of N ds) where
    pub writing_start : (t : Tally) → t ≡ start_tally tanf non_tanf d → Writing rows batch d v₀ rj₀ v₀ rj₀ (record { rows = rows; rejects = 0; tally = t }) 0
    writing_start t e =
        let f : t ≡ start = e ∙ rw (ta, na) in
        record {
          turns = omega arith;
          rows_is = refl;
          len_v = refl;
          len_r = refl;
          used = omega arith;
          coded = subst (CodedAtMost 0) (sym f) (record { a = omega arith; b = omega arith; c = omega arith; d = omega arith });
          accepted = subst (Holding ds d) (sym f) start_holds;
          kept_v = refl;
          kept_r = refl;
          left = λ verdicts h. subst (λ (x : Tally). LeftOf ds verdicts v₀ rj₀ 0 x 0) (sym f) (left_start verdicts);
        }

  module _ (v rj : List ℕ) (s : Progress) (i : ℕ) (g : Writing rows batch d v₀ rj₀ v rj s i) (l : i < d) (in-v : d ≤ length v₀)
      (w : Verdict) (iv : IsVerdictIn (get_or v i 0) w) (v' rj' : List ℕ) (r : Progress) where
    abbrev rec : List ℕ
    rec = take 245 (drop (i * 245) batch)

    rest_is : drop i ds ≡ rec ∷ drop (i + 1) ds
    rest_is = blocks-next 245 d batch i l

    -- it stands among the accepted
    type_there : (case_type : ℕ) → count_of case_type (drop i ds) ≡ count_in case_type rec + count_of case_type (drop (i + 1) ds)
    type_there case_type = ap (count_of case_type) rest_is ∙ (count_sum case_type).more rec (drop (i + 1) ds)

    pub stands_tanf : count_in A rec ≤ s.tally.tanf_accepted
    stands_tanf = omega (arith, type_there A, g.accepted.tanf)

    pub stands_non_tanf : count_in N rec ≤ s.tally.non_tanf_accepted
    stands_non_tanf = omega (arith, type_there N, g.accepted.non_tanf)

    module _ (u : Recorded rec w s i v rj r v' rj') where
      module _ (verdicts : List Judgement) (h : HoldsVerdicts d v₀ verdicts) where
        abbrev vd : Judgement
        vd = get_or verdicts i no_judgement

        abbrev later : List Judgement
        later = drop (i + 1) verdicts

        verdicts_are : drop i verdicts ≡ vd ∷ later
        verdicts_are = rw (add-one i) (drop-cons verdicts i no_judgement (omega (arith, h.count)))

        packed : Packed (get_or v i 0) i vd
        packed = subst (λ (z : ℕ). Packed z i vd) (sym (kept_first v v₀ i g.kept_v)) (h.held i l)

        means : meaning w ≡ vd
        means = iv.means i vd packed (h.judged i l)

        says : says_accepted w ≡ not (is_rejected vd)
        says = iv.says i vd packed (h.judged i l)

        numbers_go : take (i + 1) v' ++ numbers later ≡ numbers verdicts
        unfolding numbers
        numbers_go =
            let n : v' ≡ set v i (number_of vd) = u.number_is ∙ ap (set v i) (set-number w vd means u.fits) in
            let x : take (i + 1) v' ≡ take i v ++ number_of vd ∷ [] = rw (n, add-one i) (take-suc-set v i (number_of vd) (omega (arith, g.len_v))) in
            let y : take i v ++ (number_of vd ∷ numbers later) ≡ numbers verdicts = rw verdicts_are at (g.left verdicts h).numbers_same in
            rw x (append_assoc (take i v) (number_of vd ∷ []) (numbers later) ∙ y)

        rejects_go : blocks 245 r.rejects rj' ++ reject_records (drop (i + 1) ds) later ≡ reject_records ds verdicts
        unfolding reject_records
        rejects_go =
            let b : blocks 245 r.rejects rj' ≡ blocks 245 s.rejects rj ++ if_any vd.codes (reject_record rec vd) = u.rejects_are.blocks_are ∙ rw means in
            let y : blocks 245 s.rejects rj ++ reject_records (rec ∷ drop (i + 1) ds) (vd ∷ later) ≡ reject_records ds verdicts = rw (verdicts_are, rest_is) at (g.left verdicts h).rejects_same in
            rw b (append_assoc (blocks 245 s.rejects rj) (if_any vd.codes (reject_record rec vd)) (reject_records (drop (i + 1) ds) later) ∙ y)

        counts_go : plus (counts_in r.tally) (counts_of (drop (i + 1) ds) later) ≡ plus (counts_of ds verdicts) (all_accepted (drop (i + 1) ds))
        unfolding all_accepted
        counts_go =
            let clean : Counts = one_detail rec false false in
            let own : Counts = one_detail rec (is_rejected vd) (is_warned vd) in
            let b : plus (counts_in r.tally) clean ≡ plus (counts_in s.tally) own =
            u.counted.counts_are ∙ ap (plus (counts_in s.tally)) (adds-verdict w vd means u.fits rec says (h.judged i l)) in
            let y : plus (counts_in s.tally) (counts_of (rec ∷ drop (i + 1) ds) (vd ∷ later)) ≡ plus (counts_of ds verdicts) (all_accepted (rec ∷ drop (i + 1) ds)) =
            rw (verdicts_are, rest_is) at (g.left verdicts h).counts_same in
            plus_cancel (counts_in r.tally) clean (counts_in s.tally) own (counts_of (drop (i + 1) ds) later) (counts_of ds verdicts) (all_accepted (drop (i + 1) ds)) b
            (ap (plus (counts_in s.tally)) (sym (counts_cons rec (drop (i + 1) ds) vd later)) ∙ y)

        left_next : LeftOf ds verdicts v' rj' r.rejects r.tally (i + 1)
        left_next = record { numbers_same = numbers_go; rejects_same = rejects_go; counts_same = counts_go }

      holding_next : Holding (drop (i + 1) ds) d r.tally
      holding_next =
          let k = u.counted in
          let a = g.accepted in
          record {
            tanf = omega (arith, type_there A, a.tanf, k.tanf_low);
            non_tanf = omega (arith, type_there N, a.non_tanf, k.non_tanf_low);
            tanf_few = omega (arith, a.tanf_few, k.tanf_high);
            non_tanf_few = omega (arith, a.non_tanf_few, k.non_tanf_high);
            neither_few = omega (arith, a.neither_few, k.neither_is);
          }

      pub writing_next : length v' ≡ length v → length rj' ≡ length rj → Writing rows batch d v₀ rj₀ v' rj' r (i + 1)
      writing_next lv lr =
          record {
            turns = omega arith;
            rows_is = u.rows_is ∙ g.rows_is;
            len_v = lv ∙ g.len_v;
            len_r = lr ∙ g.len_r;
            used = omega (arith, u.rejects_high, g.used);
            coded = u.counted.coded_few;
            accepted = holding_next;
            kept_v = ap (drop (i + 1)) u.number_is ∙ drop-set-lt (i + 1) v i (set_in w) (omega arith) ∙ kept_further v v₀ i (i + 1) (omega arith) g.kept_v;
            kept_r = u.rejects_are.rest_kept ∙ kept_further rj rj₀ (s.rejects * 245) (r.rejects * 245) (omega (arith, u.rejects_low)) g.kept_r;
            left = left_next;
          }

  -- ---- the end

  module _ (v rj : List ℕ) (s : Progress) (i : ℕ) (g : Writing rows batch d v₀ rj₀ v rj s i) (l : d ≤ i) where
    all : i ≡ d
    all = omega (arith, g.turns)

    pub writing_few : s.rejects ≤ d
    writing_few = omega (arith, g.used, g.turns)

    pub writing_counted : AtMost d s.tally
    writing_counted =
        record {
          a = g.accepted.tanf_few;
          b = omega (arith, all, g.coded.a);
          c = g.accepted.non_tanf_few;
          d = omega (arith, all, g.coded.b);
          e = omega (arith, all, g.coded.c);
          f = omega (arith, all, g.coded.d);
          g = g.accepted.neither_few;
        }

    none_left : drop i ds ≡ []
    none_left = drop_of_length-le ds {i = i} (rw (length-blocks 245 d batch) l)

    module _ (verdicts : List Judgement) (h : HoldsVerdicts d v₀ verdicts) where
      no_verdicts : drop i verdicts ≡ []
      no_verdicts = drop_of_length-le verdicts {i = i} (omega (arith, h.count))

      done_numbers : take i v ≡ numbers verdicts
      unfolding numbers
      done_numbers = sym (append-nil (take i v)) ∙ (rw no_verdicts at (g.left verdicts h).numbers_same)

      done_rejects : blocks 245 s.rejects rj ≡ reject_records ds verdicts
      unfolding reject_records
      done_rejects = sym (append-nil (blocks 245 s.rejects rj)) ∙ (rw none_left at (g.left verdicts h).rejects_same)

      done_counts : counts_in s.tally ≡ counts_of ds verdicts
      unfolding all_accepted
      done_counts =
          let y : plus (counts_in s.tally) (counts_of [] (drop i verdicts)) ≡ plus (counts_of ds verdicts) (all_accepted []) =
          rw none_left at (g.left verdicts h).counts_same in
          sym (plus_none (counts_in s.tally)) ∙ ap (plus (counts_in s.tally)) (sym (counts_none (drop i verdicts))) ∙ y ∙ plus_none (counts_of ds verdicts)

      pub writing_done : VerdictsWritten ds verdicts v₀ rj₀ v rj s.rejects s.tally
      writing_done =
          let n : length ds ≡ d = length-blocks 245 d batch in
          let e : i ≡ length ds = all ∙ sym n in
          record {
            numbers_are = rw (← e) done_numbers;
            numbers_kept = rw (← e) g.kept_v;
            rejects_are = done_rejects;
            rejects_few = omega (arith, writing_few);
            rejects_kept = g.kept_r;
            counts_are = done_counts;
            counted = subst (λ (z : ℕ). AtMost z s.tally) (sym n) writing_counted;
          }
