-- From the steps of the work on a batch (details in key order, new keys counted, rows shifted, keys walked, verdicts written) to what all
-- details leave. Assumes nothing.
use Prim.Native.Nat.{ℕ, zero, suc, ◌+◌, ◌*◌, ◌≤◌, ◌<◌}
use mathlib.Core.Path.{◌≡◌, refl, sym, ap, ◌∙◌, subst}
use mathlib.Core.Bool.{Bool, true, false}
use mathlib.Core.List.{List, [], ◌∷◌}
use mathlib.Core.Logic.{inl, inr}
use mathlib.Core.Option.{Option, none, some}
use native.Mathlib.Omega.{arith}
use borrow.Author.Tests.{ltb-true, ltb-false}
use lib.Dec.{ltb}
use lib.ListN.{length, take, drop, get_or, length-drop}
use lib.Seq.{get_or-drop, ext_get_or}
use Rattle.text.specs.Blocks.{blocks}
use Rattle.casemaster.proofs.KeyRowLaws.{SoundKeyRow, found_sound}
use Rattle.casemaster.specs.Rows.{row_with}
use Rattle.layout.specs.Locals.{is_local_list}
use Rattle.text.proofs.BlocksLaws.{length-blocks, blocks_get}
use Rattle.layout.specs.Record.{record_key}
use Rattle.onecase.specs.Verdict.{Judgement, judgement, no_judgement}
use Rattle.keyorder.specs.Order.{detail_at}
use Rattle.keyorder.specs.Tagged.{index_part, index_parts, TaggedOrder}
use Rattle.keyorder.specs.Runs.{IsOwnEnd}
use Rattle.keyorder.proofs.TaggedLaws.{tag_at, tagged_known}
use Rattle.keyorder.proofs.RankLaws.{own_below}
use Rattle.keywork.specs.Packed.{place_in, Packed, SoundOrNone, IsMachineJudgement, HoldsVerdicts}
use Rattle.keywork.specs.Worked.{AllPlaces, PutBack, UnderAlone, AloneWorked}
use Rattle.turns.specs.Turns.{verdict_on, final_rows, verdicts_on}
use Rattle.keywalk.specs.Walk.{distinct, new_keys}
use Rattle.text.proofs.WidthLaws.{All}
use Rattle.turns.proofs.UnderLaws.{IsRecord, final_fit, final_few, length_verdicts}
use Rattle.turns.proofs.IndexLaws.{key_at, verdict_at_lem}
use Rattle.keywalk.specs.Walking.{OrderReady}
use Rattle.keywalk.proofs.KeysLaws as Keys
use Rattle.keywalk.proofs.KeysLaws.{SameFrom, same_from_self}
use Rattle.keywalk.proofs.WalkLaws.{worked_length, worked_final}
use Rattle.turns.specs.Adds.{adds_without_row}
use Rattle.casemaster.proofs.RowsLaws.{Each, Fit}
use Rattle.judging.specs.Setting.{setting_of}
use Rattle.turns.specs.Settings.{Settings, setting_under}
use Rattle.layout.specs.Key.{is_own_key}
use Rattle.onecase.proofs.JudgementLaws.{judged_alone}

-- ---- the details in key order

module _ (state : List ℕ) (year : ℕ) (list batch : List ℕ) (d : ℕ) (numbers₀ numbers : List ℕ) (own : ℕ) (r : d * 245 ≤ length batch) (n : d ≤ length numbers₀)
    (x : TaggedOrder state year list (blocks 245 d batch) d numbers₀ numbers) (w : IsOwnEnd d numbers own) where
  pub order_ready : OrderReady state year list batch d own numbers
  order_ready =
      record {
        recorded = r;
        numbered = omega (arith, x.width, n);
        in_order = x.in_order;
        tags = λ q l.
            let c : length (index_parts d numbers) ≡ length (blocks 245 d batch) = x.in_order.count in
            let m = length-blocks 245 d batch in
            let i : index_part (get_or numbers q 0) < d =
            rw (← tag_at d numbers q l) (omega (arith, x.in_order.inside q (omega (arith, c, m)), m)) in
            rw (← blocks_get 245 d batch (index_part (get_or numbers q 0)) i) (x.tags q l);
        own_end = w;
      }

module _ (settings : Settings) {batch : List ℕ} {d own : ℕ} {rows : List (List ℕ)} {numbers : List ℕ}
    (o : OrderReady settings.state settings.year settings.list batch d own numbers) (fit : Fit rows) (listed : is_local_list settings.list ≡ true) where
  abbrev details : List (List ℕ)
  details = Keys.details o

  abbrev order : List ℕ
  order = Keys.order o

  abbrev at : ℕ → ℕ
  at = Keys.at o

  abbrev keys : List (List ℕ)
  keys = Keys.keys o

  abbrev verdicts : List Judgement
  verdicts = verdicts_on settings rows details

  -- the rows that there will be, and the new keys
  pub new_final : length rows + new_keys settings details (distinct keys) rows ≡ length (final_rows settings rows details)
  new_final =
      sym (worked_length settings details (Keys.records o) listed (distinct keys) rows (Keys.rises o 0) fit.wide fit.sound)
      ∙ ap length (worked_final settings o.in_order own (Keys.own_order o) (Keys.low o) (Keys.high o) rows listed (Keys.records o) fit.wide fit.sound)

  pub new_few : new_keys settings details (distinct keys) rows ≤ adds_without_row rows details
  new_few = omega (arith, new_final, final_few settings listed rows details (Keys.records o) fit.wide fit.sound)

  -- ---- the verdicts

  opened : (before : List (List ℕ)) (rec : List ℕ) → verdict_on settings before rec ≡ judgement (setting_under settings (record_key rec)) (row_with (record_key rec) before) rec
  unfolding verdict_on
  opened before rec = refl

  -- each is a judgement of the machine
  pub verdict_judged : (i : ℕ) → i < d → IsMachineJudgement (get_or verdicts i no_judgement)
  verdict_judged i l =
      let ii : i < length details = rw (Keys.count_details o) l in
      let before : List (List ℕ) = final_rows settings rows (take i details) in
      let rec : List ℕ = detail_at details i in
      let f : Fit (final_rows settings rows (take i details)) =
      final_fit settings listed rows (take i details) (taken i details (Keys.records o)) fit in
      record {
        setting = setting_under settings (record_key rec);
        row = row_with (record_key rec) (final_rows settings rows (take i details));
        rec = rec;
        row_sound = sound (row_with (record_key rec) (final_rows settings rows (take i details))) (found_sound (record_key rec) (final_rows settings rows (take i details)) f);
        judged = sym (verdict_at_lem settings rows details i no_judgement ii ∙ opened (final_rows settings rows (take i details)) rec);
      }
    where
      taken : (i : ℕ) (ds : List (List ℕ)) → All IsRecord ds → All IsRecord (take i ds)
      taken zero ds a = tt
      taken (suc i) [] a = tt
      taken (suc i) (x ∷ ds) a = (a.0, taken i ds a.1)

      sound : (row : Option (List ℕ)) → Each (SoundKeyRow (record_key (detail_at details i))) row → SoundOrNone row
      sound none g = tt
      sound (some row) g = (g.keyed.wide, g.sound)

  -- a detail whose key isn't an own one goes by no row
  alone : (q : ℕ) → own ≤ q → q < d
      → get_or verdicts (at q) no_judgement ≡ judgement (setting_under settings (key_at details (at q))) none (detail_at details (at q))
  alone q a b =
      let l : at q < d = Keys.at_inside o q b in
      let ll : at q < length details = rw (Keys.count_details o) l in
      verdict_at_lem settings rows details (at q) no_judgement ll
      ∙ opened (final_rows settings rows (take (at q) details)) (detail_at details (at q))
      ∙ judged_alone (setting_under settings (key_at details (at q))) (detail_at details (at q)) (wide (at q) details (Keys.records o) ll)
      (go (is_own_key settings.state (key_at details (at q))) refl)
      (row_with (record_key (detail_at details (at q))) (final_rows settings rows (take (at q) details)))
    where
      wide : (i : ℕ) (ds : List (List ℕ)) → All IsRecord ds → i < length ds → length (detail_at ds i) ≡ 245
      wide i [] h l = absurd (omega arith)
      wide zero (x ∷ ds) h l = h.0
      wide (suc i) (x ∷ ds) h l = wide i ds h.1 (omega arith)

      go : (t : Bool) → is_own_key settings.state (key_at details (at q)) ≡ t → t ≡ false
      go false t = refl
      go true t = absurd (omega (arith, own_below settings.state (key_at details (at q)) t, Keys.high o q a (rw (Keys.count_order o) b)))

  -- ---- behind the walk: the details without an own key, and all numbers put back

  module _ (numbers₁ : List ℕ) (width₁ : length numbers₁ ≡ length numbers)
      (walked : (q : ℕ) → q < own → Packed (get_or numbers₁ q 0) (at q) (get_or verdicts (at q) no_judgement))
      (behind : (q : ℕ) → own ≤ q → get_or numbers₁ q 0 ≡ get_or numbers q 0) where
    same : SameFrom own numbers numbers₁
    same = record { len = width₁; same = behind }

    -- the records behind the own keys are there
    pub alone_there : (own ≤ d) × (d ≤ length numbers₁) × ((q : ℕ) → own ≤ q → q < d → index_part (get_or numbers₁ q 0) * 245 + 245 ≤ length batch)
    alone_there = (
      Keys.own_in o,
      omega (arith, width₁, o.numbered),
      λ q a b. omega (arith, Keys.index_is o same q a b, Keys.at_inside o q b, o.recorded),
    )

    module _ (numbers₂ numbers₃ : List ℕ)
        (judged : UnderAlone settings.state settings.year settings.list batch numbers₁ own d (λ s. AloneWorked s batch own d numbers₁ numbers₂))
        (back : PutBack d numbers₂ numbers₃) where
      rest : (names : List (List ℕ)) → AloneWorked (setting_of settings.state settings.year settings.list names) batch own d numbers₁ numbers₂
      rest names =
          judged names (λ q a b. rw (behind q a) (tagged_known _ _ _ _ _ _ (o.tags q b)))

      noted : (q : ℕ) → q < d → Packed (get_or numbers₂ q 0) (at q) (get_or verdicts (at q) no_judgement)
      noted q b = go (ltb q own) refl
        where
          go : (t : Bool) → ltb q own ≡ t → Packed (get_or numbers₂ q 0) (at q) (get_or verdicts (at q) no_judgement)
          go true t = let a = ltb-true q own t in rw ((rest []).kept q (inl a)) (walked q a)
          go false t =
              let a = ltb-false q own t in
              rw (alone q a b) (rw (Keys.record_is o same q a b, Keys.index_is o same q a b) at ((rest (settings.names (key_at details (at q)))).packed q a b))

      -- each index stands once
      places : AllPlaces d numbers₂
      places =
          record {
            inside = λ q l. rw (noted q l).index_is (Keys.at_inside o q l);
            apart = λ q p l m e.
                let n : q < d = omega arith in
                Keys.apart o q p l m (sym (noted q n).index_is ∙ e ∙ (noted p m).index_is);
          }

      pub all_noted : HoldsVerdicts d numbers₃ verdicts
      all_noted =
          record {
            count = length_verdicts settings rows details ∙ Keys.count_details o;
            held = λ i l.
                let s = o.in_order.all i (rw (Keys.count_details o) l) in
                let b : s.0 < d = rw (Keys.count_order o) at s.1 in
                let x : get_or numbers₃ (place_in (get_or numbers₂ s.0 0)) 0 ≡ get_or numbers₂ s.0 0 = back.number places s.0 b in
                let y : get_or numbers₃ i 0 ≡ get_or numbers₂ s.0 0 = (rw ((noted s.0 b).index_is, s.2) at x) in
                subst (λ (n : ℕ). Packed (get_or numbers₃ i 0) n (get_or verdicts n no_judgement)) s.2 (rw y (noted s.0 b));
            judged = verdict_judged;
          }

      pub numbers-behind : drop d numbers₃ ≡ drop d numbers
      numbers-behind =
          back.kept
          ∙ ext_get_or 0 (drop d numbers₂) (drop d numbers)
          (length-drop d numbers₂ ∙ rw ((rest []).width, width₁) (sym (length-drop d numbers)))
          (λ i l.
          get_or-drop d numbers₂ i 0 ∙ (rest []).kept (d + i) (inr (omega arith)) ∙ behind (d + i) (omega (arith, Keys.own_in o))
          ∙ sym (get_or-drop d numbers i 0))
