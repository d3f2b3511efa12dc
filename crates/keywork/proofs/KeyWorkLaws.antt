-- One key's details marked and worked: the marks change no index, so the work is that on the numbers as they were sorted. Assumes nothing.
use Prim.Native.Nat.{ℕ, zero, suc, ◌+◌, ◌-◌, ◌*◌, ◌≤◌, ◌<◌}
use mathlib.Core.Path.{◌≡◌, refl, sym, ◌∙◌}
use mathlib.Core.Bool.{Bool}
use mathlib.Core.List.{List}
use mathlib.Core.Option.{Option}
use native.Mathlib.Omega.{arith}
use lib.ListN.{length, get_or}
use Rattle.layout.specs.Record.{record_key}
use Rattle.judging.specs.Setting.{Setting}
use Rattle.keyorder.specs.Tagged.{index_part, record_in}
use Rattle.keyorder.specs.Runs.{RunFound, SortedFrom}
use Rattle.keyorder.specs.declared.runs.Run.{Run}
use Rattle.keyorder.proofs.RankLaws.{rank_most}
use Rattle.namemarks.specs.Marks.{names_of, part, RunReady, RunMarked}
use Rattle.keywork.specs.Worked.{UnderTags, row_after, RunWorked}
use Rattle.keywork.specs.KeyWork.{KeyReady, run_setting}

-- the row after some details goes by their records alone
after_same : (setting : Setting) (batch a b : List ℕ) (p n : ℕ) (row : Option (List ℕ)) → ((q : ℕ) → index_part (get_or a q 0) ≡ index_part (get_or b q 0))
    → row_after setting batch a p n row ≡ row_after setting batch b p n row
unfolding row_after
after_same setting batch a b p zero row h = refl
after_same setting batch a b p (suc n) row h = rw (after_same setting batch a b p n row h, h (p + n))

module _ (state : List ℕ) (year : ℕ) (list batch numbers : List ℕ) (p e : ℕ) (gives : Bool) (k : KeyReady state year list batch numbers p e gives) where
  pub run_ready : RunReady state batch numbers p e gives
  run_ready =
      record {
        later = k.later;
        within = k.ready.within;
        there = k.ready.there;
        same = k.same;
        low =
            let r = (k.ready.tags p (omega arith) k.later).rank_is in
            let m = rank_most state (record_key (record_in batch numbers p)) in
            omega (arith, r, m);
        unmarked = λ q a b. (k.ready.tags q a b).unmarked;
        givers = λ q a b. (k.ready.tags q a b).gives_is;
        rising = λ q r a l b. k.ready.rising q r a l b (k.same q a (omega arith) ∙ sym (k.same r (omega arith) b));
        gives_is = k.gives_is;
      }

  module _ (after : List ℕ) (m : RunMarked state batch p e numbers after) where
    pub there_after : (p ≤ e) × (e ≤ length after) × ((q : ℕ) → p ≤ q → q < e → index_part (get_or after q 0) * 245 + 245 ≤ length batch)
    there_after =
        (omega (arith, k.later), omega (arith, m.width, k.ready.within), λ q a b. rw (m.index q) (k.ready.there q a b))

    pub key_run : (row row' : Option (List ℕ)) (numbers' : List ℕ)
        → UnderTags state year list batch after p e (λ setting. RunWorked setting batch p e row row' after numbers')
        → RunWorked (run_setting state year list batch numbers p e) batch p e row row' numbers numbers'
    key_run row row' numbers' u =
        let w =
        u (names_of state batch (part p e numbers))
        (λ q a b. let t = k.ready.tags q a b in
        rw (m.index q) (record { local_is = m.local q a b ∙ t.local_is; wrong_is = m.wrong q a b ∙ t.wrong_is }))
        (λ q a b. rw (m.index q) (m.given q a b)) in
        record {
          row_is = w.row_is ∙ after_same (run_setting state year list batch numbers p e) batch after numbers p (e - p) row m.index;
          packed = λ q a b.
              rw (← m.index q, ← after_same (run_setting state year list batch numbers p e) batch after numbers p (q - p) row m.index) (w.packed q a b);
          kept = λ q o. w.kept q o ∙ m.outside q o;
          width = w.width ∙ m.width;
        }

-- the run found at a position is ready to be worked
pub key_ready : (state : List ℕ) (year : ℕ) (list batch numbers : List ℕ) (p own : ℕ) (r : Run) → SortedFrom state year list batch numbers p own
    → RunFound numbers p own r → KeyReady state year list batch numbers p r.end r.gives
key_ready state year list batch numbers p own r s f =
    let w = f.run.within in
    record {
      later = f.run.later;
      ready =
          record {
            within = omega (arith, s.within);
            there = λ q a b. s.there q a (omega arith);
            tags = λ q a b. s.tags q a (omega arith);
            rising = λ q r a l b. s.rising q r a l (omega arith);
          };
      same = f.run.same;
      gives_is = f.gives_is;
    }
