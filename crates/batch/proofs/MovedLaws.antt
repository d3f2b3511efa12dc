-- Rows moved up, counts at the front of the journal and the walk over the keys are rows moved. Assumes nothing.
use Prim.Native.Nat.{ℕ, suc, ◌+◌, ◌-◌, ◌*◌, ◌^◌, ◌≤◌, ◌<◌}
use mathlib.Core.Path.{◌≡◌, refl, sym, ap, ◌∙◌, subst}
use mathlib.Core.Bool.{Bool, true, false}
use mathlib.Core.List.{List, ◌++◌}
use native.Mathlib.Omega.{arith}
use lib.ListN.{length, drop, length-append}
use Rattle.text.proofs.BlocksLaws.{length-blocks}
use Rattle.text.proofs.SplicedLaws.{length-spliced, spliced_none}
use Rattle.casemaster.specs.Master.{rows_of}
use Rattle.casemaster.specs.Search.{Raised}
use Rattle.keywalk.specs.Walking.{rows_from, Fixed, fixed_of, start_of, WalkReady}
use Rattle.journal.specs.Numbers.{number_bytes}
use Rattle.journal.specs.Writing.{Wrote}
use Rattle.journal.proofs.NumberLaws.{number-length}
use Rattle.journalwalk.specs.JournalWalk.{journal_part, JournalRoom, WalkJournaled}
use Rattle.journalwalk.proofs.WholeLaws.{journal_whole}
use Rattle.batch.specs.Journaling.{counts_part, whole_journal}
use Rattle.batch.specs.Parts.{MoveReady, OwnWorked, RowsMoved}

module _ (state : List ℕ) (year : ℕ) (list batch : List ℕ) (own new n : ℕ) (master numbers : List ℕ) (wanted : Bool) (journal : List ℕ)
    (r : MoveReady (fixed_of state year list batch own (n + new)) master n numbers new wanted journal) where
  abbrev fixed : Fixed
  fixed = fixed_of state year list batch own (n + new)

  rows_before_lem : n < 128 ^ 4
  rows_before_lem = omega (arith, r.few)

  pub counts_room : wanted ≡ true → length (number_bytes n) + length (number_bytes (n + new)) ≤ length journal
  counts_room e = omega (arith, r.space e, number-length 3 n rows_before_lem, number-length 3 (n + new) r.few)

  counts_in_lem : 0 + length (counts_part wanted n (n + new)) ≤ length journal
  counts_in_lem = go wanted (λ e. counts_room e)
    where
      go : (w : Bool) → (w ≡ true → length (number_bytes n) + length (number_bytes (n + new)) ≤ length journal)
          → 0 + length (counts_part w n (n + new)) ≤ length journal
      go true f = omega (arith, f refl, length-append (number_bytes n) (number_bytes (n + new)))
      go false f = omega arith

  module _ (master₁ : List ℕ) (raised : Raised master n new master₁) where
    rows_are : rows_from new (n + new) master₁ ≡ rows_of n master
    rows_are =
        let e : n + new - new ≡ n = omega arith in
        ap (λ (z : ℕ). rows_of z (drop (new * 200) master₁)) e ∙ raised.rows_are

    pub walk_ready : WalkReady fixed (start_of new master₁ numbers)
    walk_ready =
        record {
          listed = r.listed;
          ordered = r.ordered;
          given = λ key. refl;
          within = omega arith;
          rows_in = omega (arith, r.rows_in, raised.same_length);
          sound = rw rows_are r.sound;
          room = rw rows_are r.new_is;
        }

    module _ (journal₁ : List ℕ) (at : ℕ) (v : Wrote journal 0 (counts_part wanted n (n + new)) journal₁ at) where
      same_length : length journal₁ ≡ length journal
      same_length = ap length v.bytes_are ∙ length-spliced journal 0 (counts_part wanted n (n + new)) counts_in_lem

      pub room_ready : JournalRoom wanted own (n + new) at journal₁
      room_ready =
          record {
            groups = 3;
            places = r.few;
            inside = omega (arith, v.next_is, counts_in_lem, same_length);
            space = λ e. space e;
          }
        where
          space : wanted ≡ true → at + (suc 3 + 201) * own ≤ length journal₁
          space e =
              let a : at ≡ 0 + length (counts_part true n (n + new)) =
              subst (λ (w : Bool). at ≡ 0 + length (counts_part w n (n + new))) e v.next_is in
              omega (
                arith,
                a,
                r.space e,
                same_length,
                r.ordered.own_end.within,
                length-append (number_bytes n) (number_bytes (n + new)),
                number-length 3 n rows_before_lem,
                number-length 3 (n + new) r.few,
              )

      module _ (master₂ numbers₂ journal₂ : List ℕ) (written : ℕ)
          (w : WalkJournaled fixed (start_of new master₁ numbers) wanted journal₁ at master₂ numbers₂ journal₂ written) where
        own_worked : OwnWorked fixed master n numbers numbers₂
        own_worked =
            record {
              listed = r.listed;
              ordered = r.ordered;
              rows_in = omega (arith, r.rows_in);
              sound = r.sound;
              verdicts = λ q l. rw (← rows_are) (w.walked.verdicts q l);
              behind = w.walked.behind;
              width = w.walked.width;
            }

        wrote : Wrote journal 0 (whole_journal wanted (rows_of n master) (rows_of (n + new) master₂)) journal₂ written
        wrote =
            go wanted counts_in_lem v
            (subst (λ (y : List (List ℕ)). Wrote journal₁ at (journal_part wanted y (rows_of (n + new) master₂)) journal₂ written) rows_are w.wrote)
          where
            go : (t : Bool) → 0 + length (counts_part t n (n + new)) ≤ length journal → Wrote journal 0 (counts_part t n (n + new)) journal₁ at
                → Wrote journal₁ at (journal_part t (rows_of n master) (rows_of (n + new) master₂)) journal₂ written
                → Wrote journal 0 (whole_journal t (rows_of n master) (rows_of (n + new) master₂)) journal₂ written
            go false l a b =
                record {
                  next_is = omega (arith, a.next_is, b.next_is);
                  bytes_are = b.bytes_are ∙ sym (spliced_none journal₁ at) ∙ a.bytes_are;
                }
            go true l a b =
                let f : length (rows_of n master) ≡ n = length-blocks 200 n master in
                let g : length (rows_of (n + new) master₂) ≡ n + new = length-blocks 200 (n + new) master₂ in
                let i : number_bytes (length (rows_of n master)) ++ number_bytes (length (rows_of (n + new) master₂)) ≡ number_bytes n ++ number_bytes (n + new) =
                ap (λ (z : ℕ). number_bytes z ++ number_bytes (length (rows_of (n + new) master₂))) f ∙ ap (λ (z : ℕ). number_bytes n ++ number_bytes z) g in
                journal_whole journal journal₁ journal₂ at written (rows_of n master) (rows_of (n + new) master₂)
                (subst (λ (z : List ℕ). length z ≤ length journal) (sym i) (omega arith)) (subst (λ (z : List ℕ). Wrote journal 0 z journal₁ at) (sym i) a) b

        pub moved : length master₂ ≡ length master → RowsMoved fixed master n numbers wanted journal master₂ numbers₂ journal₂ written
        moved e =
            record {
              rows_are = rw (w.walked.rows_are, rows_are);
              rows_in = omega (arith, r.rows_in, e);
              rows_kept = w.walked.rows_kept ∙ raised.rest_kept;
              own_worked = own_worked;
              wrote = wrote;
            }
