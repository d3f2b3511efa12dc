-- The journal along the walk: the entries written are those of the rows passed. Assumes nothing.
use Prim.Native.Nat.{ℕ, suc, ◌+◌, ◌-◌, ◌*◌, ◌^◌, ◌≤◌, ◌<◌}
use mathlib.Core.Path.{◌≡◌, refl, sym, ap, ◌∙◌, subst}
use mathlib.Core.Bool.{Bool, true, false, cond}
use mathlib.Core.List.{List, [], ◌++◌, append-nil}
use mathlib.Core.Option.{Option, none, some}
use native.Mathlib.Nat.{mul-le-mul_left, mul-add, mul-one}
use native.Mathlib.Omega.{arith}
use lib.ListN.{length, drop, length-append, length-drop}
use Rattle.text.specs.Options.{one_or_none}
use Rattle.text.specs.Blocks.{blocks}
use Rattle.text.specs.ByteOrder.{rising}
use Rattle.text.proofs.BlocksLaws.{length-blocks, blocks_split, kept_further}
use Rattle.text.proofs.SplicedLaws.{length-spliced, spliced_none, spliced_then}
use Rattle.text.proofs.WidthLaws.{All, blocks_wide}
use Rattle.casemaster.specs.Row.{row_key}
use Rattle.casemaster.specs.Master.{rows_of, keys_of}
use Rattle.casemaster.specs.Rows.{row_with}
use Rattle.casemaster.proofs.RowsLaws.{IsWide, found_all, rows_rise}
use Rattle.keywalk.specs.Walking.{rows_from, Fixed, Stand, row_now, KeyWorked, WalkReady}
use Rattle.keywalk.proofs.StandLaws.{from_split}
use Rattle.keywalk.proofs.WalkingLaws.{Walking, under_key, walking_met, walking_done}
use Rattle.journal.specs.Journal.{Entry, entries_from, entries_bytes}
use Rattle.journal.specs.Writing.{Wrote, key_entries, key_bytes}
use Rattle.journal.proofs.WritingLaws.{entries_append, AreKept, kept_entries, middle_kept, entries_one, bytes_append}
use Rattle.journalwalk.specs.JournalWalk.{KeyRoom, KeyJournaled, journal_part, JournalRoom, WalkJournaled}
use Rattle.journalwalk.proofs.KeyEntryLaws.{key_bytes-length}

-- ---- bytes behind bytes

pub wrote_then : (d d₁ d₂ : List ℕ) (at n r : ℕ) (a b : List ℕ) → at + length a ≤ length d → Wrote d at a d₁ n → Wrote d₁ n b d₂ r → Wrote d at (a ++ b) d₂ r
wrote_then d d₁ d₂ at n r a b h v w =
    record {
      next_is = rw (length-append a b) (omega (arith, v.next_is, w.next_is));
      bytes_are = w.bytes_are ∙ rw v.bytes_are (spliced_then d at n a b v.next_is h);
    }

wrote_length : (d d₁ : List ℕ) (at n : ℕ) (a : List ℕ) → at + length a ≤ length d → Wrote d at a d₁ n → length d₁ ≡ length d
wrote_length d d₁ at n a h v = ap length v.bytes_are ∙ length-spliced d at a h

-- entries key by key
part_key : (wanted : Bool) (old done pass : List (List ℕ)) (key : List ℕ) (row was : Option (List ℕ)) (q : ℕ) → AreKept old pass
    → ((r : List ℕ) → row ≡ some r → row_key r ≡ key) → was ≡ row_with key old → q ≡ length done + length pass
    → journal_part wanted old ((done ++ pass) ++ one_or_none row) ≡ journal_part wanted old done ++ key_bytes wanted q was row
part_key false old done pass key row was q k h e l = refl
part_key true old done pass key row was q k h e l =
    let n : 0 + length (done ++ pass) ≡ q = rw (length-append done pass) (omega arith) in
    ap entries_bytes
    (entries_append 0 old (done ++ pass) (one_or_none row)
    ∙ ap (λ (x : List Entry). x ++ entries_from (0 + length (done ++ pass)) old (one_or_none row))
    (entries_append 0 old done pass
    ∙ ap (λ (x : List Entry). entries_from 0 old done ++ x) (kept_entries (0 + length done) old pass k)
    ∙ append-nil (entries_from 0 old done))
    ∙ ap (λ (x : List Entry). entries_from 0 old done ++ x) (rw n (one q row h)))
    ∙ bytes_append (entries_from 0 old done) (key_entries q was row)
  where
    one : (p : ℕ) (x : Option (List ℕ)) → ((r : List ℕ) → x ≡ some r → row_key r ≡ key) → entries_from p old (one_or_none x) ≡ key_entries p was x
    one p none h = entries_one p old key none h
    one p (some r) h = entries_one p old key (some r) h ∙ rw e

part_rest : (wanted : Bool) (old done rest : List (List ℕ)) → AreKept old rest → journal_part wanted old (done ++ rest) ≡ journal_part wanted old done
part_rest false old done rest k = refl
part_rest true old done rest k =
    ap entries_bytes
    (entries_append 0 old done rest
    ∙ ap (λ (x : List Entry). entries_from 0 old done ++ x) (kept_entries (0 + length done) old rest k)
    ∙ append-nil (entries_from 0 old done))

-- one more of k each
one_more_lem : (k a b : ℕ) → a + 1 ≤ b → k * a + k ≤ k * b
one_more_lem k a b h = omega (arith, mul-le-mul_left k h, mul-add k a 1, mul-one k)

-- ---- the walk

module _ (f : Fixed) (s₀ : Stand) (wanted : Bool) (journal₀ : List ℕ) (at₀ : ℕ) where
  abbrev rows₀ : List (List ℕ)
  rows₀ = rows_from s₀.from f.end s₀.master

  pub record Journaling (s : Stand) (journal : List ℕ) (written : ℕ) : Type 0 where
    pub groups : ℕ
    pub places : f.end < 128 ^ suc groups
    pub from_low : s₀.from ≤ s.from
    pub rest : drop (s.from * 200) s.master ≡ drop (s.from * 200) s₀.master
    pub wrote : Wrote journal₀ at₀ (journal_part wanted (rows_from s₀.from f.end s₀.master) (rows_of s.to s.master)) journal written
    pub inside : written + cond wanted (suc groups + 201) 0 * (f.own - s.position) ≤ length journal₀
    pub len : length journal ≡ length journal₀

  pub journaling_start : s₀.position ≡ 0 → s₀.to ≡ 0 → JournalRoom wanted f.own f.end at₀ journal₀ → Journaling s₀ journal₀ at₀
  unfolding blocks entries_from entries_bytes
  journaling_start p t r =
      record {
        groups = r.groups;
        places = r.places;
        from_low = omega arith;
        rest = refl;
        wrote = rw t (none wanted);
        inside = room wanted r.space;
        len = refl;
      }
    where
      none : (w : Bool) → Wrote journal₀ at₀ (journal_part w rows₀ []) journal₀ at₀
      none false = record { next_is = omega arith; bytes_are = spliced_none journal₀ at₀ }
      none true = record { next_is = omega arith; bytes_are = spliced_none journal₀ at₀ }

      room : (w : Bool) → (w ≡ true → at₀ + (suc r.groups + 201) * f.own ≤ length journal₀)
          → at₀ + cond w (suc r.groups + 201) 0 * (f.own - s₀.position) ≤ length journal₀
      room false h = omega (arith, r.inside)
      room true h = let e : f.own - s₀.position ≡ f.own = omega (arith, p) in rw e (h refl)

  module _ (w : WalkReady f s₀) (s : Stand) (g : Walking f s₀ w s) (journal : List ℕ) (written : ℕ) (n : Journaling s journal written) where
    -- the rows to come, as they stood at the start
    parted : (passed : ℕ) → s.from + passed ≤ f.end
        → rows₀ ≡ rows_of (s.from - s₀.from) (drop (s₀.from * 200) s₀.master) ++ (rows_of passed (drop (s.from * 200) s.master) ++ rows_from (s.from + passed) f.end s.master)
    parted passed l =
        let c : s₀.from + (s.from - s₀.from) ≡ s.from = omega (arith, n.from_low) in
        from_split s₀.master s₀.from (s.from - s₀.from) f.end (omega (arith, n.from_low))
        ∙ ap (λ (x : List (List ℕ)). rows_of (s.from - s₀.from) (drop (s₀.from * 200) s₀.master) ++ x)
        (ap (λ (x : ℕ). rows_from x f.end s₀.master) c ∙ ap (rows_of (f.end - s.from)) (sym n.rest) ∙ from_split s.master s.from passed f.end l)

    rise₀ : rising (keys_of rows₀) ≡ true
    rise₀ = rows_rise rows₀ w.sound

    pass_kept : (passed : ℕ) → s.from + passed ≤ f.end → AreKept rows₀ (rows_of passed (drop (s.from * 200) s.master))
    pass_kept passed l =
        let a : List (List ℕ) = rows_of (s.from - s₀.from) (drop (s₀.from * 200) s₀.master) in
        let b : List (List ℕ) = rows_of passed (drop (s.from * 200) s.master) in
        let c : List (List ℕ) = rows_from (s.from + passed) f.end s.master in
        subst (λ (x : List (List ℕ)). AreKept x b) (sym (parted passed l))
        (middle_kept a b c (subst (λ (x : List (List ℕ)). rising (keys_of x) ≡ true) (parted passed l) rise₀))

    wide₀ : All IsWide rows₀
    wide₀ =
        blocks_wide 200 (f.end - s₀.from) (drop (s₀.from * 200) s₀.master)
        (rw (length-drop (s₀.from * 200) s₀.master) (omega (arith, w.rows_in, w.within)))

    module _ (l : s.position < f.own) where
      entry_length : (e passed : ℕ) (row : Option (List ℕ)) (numbers' : List ℕ) → KeyWorked f s e passed row numbers'
          → length (key_bytes wanted (s.to + passed) (row_now f s passed) row) ≤ cond wanted (suc n.groups + 201) 0
      entry_length e passed row numbers' kw =
          let u = under_key f s₀ w s g l e passed row numbers' kw in
          key_bytes-length wanted (s.to + passed) n.groups (row_now f s passed) row (omega (arith, g.low, kw.below.within, n.places))
          (rw u.1 (found_all IsWide u.0 rows₀ wide₀))

      -- the key's entry has room
      pub journaling_room : KeyRoom f s wanted written journal
      journaling_room e passed row numbers' kw =
          let k = cond wanted (suc n.groups + 201) 0 in
          omega (arith, entry_length e passed row numbers' kw, n.inside, n.len, one_more_lem k (f.own - (s.position + 1)) (f.own - s.position) (omega arith))

      pub journaling_next : (s' : Stand) (journal' : List ℕ) (written' : ℕ) → KeyJournaled f s s' wanted journal written journal' written' → Journaling s' journal' written'
      journaling_next s' journal' written' y =
          let v = y.walked in
          let kw = v.worked in
          let u = under_key f s₀ w s g l s'.position v.passed v.row s'.numbers kw in
          let done : List (List ℕ) = rows_of s.to s.master in
          let pass : List (List ℕ) = rows_of v.passed (drop (s.from * 200) s.master) in
          let q : s.to + v.passed ≡ length done + length pass =
          omega (arith, length-blocks 200 s.to s.master, length-blocks 200 v.passed (drop (s.from * 200) s.master)) in
          let x : journal_part wanted rows₀ (rows_of s'.to s'.master)
          ≡ journal_part wanted rows₀ done ++ key_bytes wanted (s.to + v.passed) (row_now f s v.passed) v.row =
          ap (journal_part wanted rows₀) v.rows_are
          ∙ part_key wanted rows₀ done pass u.0 v.row (row_now f s v.passed) (s.to + v.passed) (pass_kept v.passed kw.below.within) u.2 u.1 q in
          let k = cond wanted (suc n.groups + 201) 0 in
          let r : at₀ + length (journal_part wanted rows₀ done) ≤ length journal₀ = omega (arith, n.wrote.next_is, n.inside) in
          let z = wrote_then journal₀ journal journal' at₀ written written' (journal_part wanted rows₀ done)
          (key_bytes wanted (s.to + v.passed) (row_now f s v.passed) v.row) r n.wrote y.wrote in
          let a : k * (f.own - s'.position) + k ≤ k * (f.own - s.position) = one_more_lem k (f.own - s'.position) (f.own - s.position) (omega (arith, kw.ended.later, kw.ended.within)) in
          record {
            groups = n.groups;
            places = n.places;
            from_low = omega (arith, n.from_low, v.from_is);
            rest = v.rest_kept ∙ kept_further s.master s₀.master (s.from * 200) (s'.from * 200) (omega (arith, v.from_is)) n.rest;
            wrote = rw x z;
            inside = omega (arith, y.wrote.next_is, entry_length s'.position v.passed v.row s'.numbers kw, n.inside, a);
            len = wrote_length journal journal' written written' (key_bytes wanted (s.to + v.passed) (row_now f s v.passed) v.row)
                (journaling_room s'.position v.passed v.row s'.numbers kw) y.wrote ∙ n.len;
          }

    -- behind the last key the rows to come are as they were
    pub journaling_done : f.own ≤ s.position → WalkJournaled f s₀ wanted journal₀ at₀ s.master s.numbers journal written
    journaling_done l =
        let m = walking_met f s₀ w s g l in
        let y : s.to + (f.end - s.from) ≡ f.end = omega (arith, g.within) in
        let p : s.from + (f.end - s.from) ≤ f.end = omega (arith, g.within) in
        let x : rows_of f.end s.master ≡ rows_of s.to s.master ++ rows_of (f.end - s.from) (drop (s.from * 200) s.master) =
        ap (λ (z : ℕ). rows_of z s.master) (sym y) ∙ blocks_split 200 s.to (f.end - s.from) s.master
        ∙ ap (λ (z : ℕ). rows_of s.to s.master ++ rows_of (f.end - s.from) (drop (z * 200) s.master)) (sym m) in
        let q : journal_part wanted rows₀ (rows_of f.end s.master) ≡ journal_part wanted rows₀ (rows_of s.to s.master) =
        ap (journal_part wanted rows₀) x
        ∙ part_rest wanted rows₀ (rows_of s.to s.master) (rows_of (f.end - s.from) (drop (s.from * 200) s.master)) (pass_kept (f.end - s.from) p) in
        record { walked = walking_done f s₀ w s g l; wrote = rw q n.wrote }
