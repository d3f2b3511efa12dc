-- Of every call that is carried out the answers are those of single look-ups: the walk's answers are the keys' places, and behind the
-- refusals so are those of `find`; with so low a limit no place is the answer for a key without a row. Assumes nothing.
use Prim.Native.Nat.{ℕ, ◌+◌, ◌/◌, ◌%◌, ◌<◌, ◌≤◌}
use mathlib.Core.Path.{◌≡◌, refl, sym, ap, ◌∙◌}
use mathlib.Core.Bool.{Bool, true, false}
use mathlib.Core.List.{List, [], ◌∷◌, map}
use mathlib.Core.Option.{Option, none, some}
use native.Mathlib.Omega.{arith}
use lib.Dec.{eqb, ltb}
use lib.ListN.{length, length-map}
use lib.Seq.{take_at}
use borrow.Author.Tests.{eqb-true, eqb-false, ltb-true, ltb-false, ne_eqb}
use Rattle.answers.proofs.AnswerLaws.{done_is}
use Rattle.text.specs.Fields.{every}
use Rattle.text.specs.Blocks.{over}
use Rattle.text.specs.ByteOrder.{rising}
use Rattle.text.proofs.BlocksLaws.{length-blocks}
use Rattle.text.proofs.FieldsLaws.{and_left, and_right}
use Rattle.layout.specs.Key.{is_sound_key}
use Rattle.casemaster.specs.Master.{rows_of}
use Rattle.casemaster.specs.Rows.{place_with}
use Rattle.casemaster.specs.Refusals.{master_refusal}
use Rattle.casemaster.proofs.RefusalsLaws.{master_sound}
use Rattle.casemaster.proofs.RowsLaws.{rows_rise}
use Rattle.casemaster.proofs.SearchLaws.{place_inside}
use Rattle.lookup.specs.Find.{find_answer}
use Rattle.lookup.specs.Many.{keys_in, are_keys, no_place, whole_walk, many_refusal, ManyOutcome, many_run, many_outcome}
use Rattle.lookup.specs.Theorem.{found_as, AreFound, EveryLookup}
use Rattle.lookup.proofs.FindLaws.{find_at, find_missing}
use Rattle.lookup.proofs.LimitLaws.{rows_few}
use Rattle.lookup.proofs.ManyLaws.{refused_master, refused_27, refused_28}
use Rattle.lookup.proofs.AnswersLaws.{place_from, few_made, answers_are}

-- ---- what is known where no refusal holds

pub record Known (limit : ℕ) (master : List ℕ) (rows : ℕ) (keys places : List ℕ) : Type 0 where
  pub master_right : master_refusal limit master rows 0 ≡ 0
  pub keys_right : are_keys keys ≡ true
  pub room : length keys / 12 ≤ length places

module _ (limit : ℕ) (master : List ℕ) (rows : ℕ) (keys places : List ℕ) where
  known : many_refusal limit master rows keys places ≡ 0 → Known limit master rows keys places
  known e = go (eqb (master_refusal limit master rows 0) 0) refl (are_keys keys) refl (ltb (length places) (length keys / 12)) refl
    where
      go : (a : Bool) → eqb (master_refusal limit master rows 0) 0 ≡ a → (b : Bool) → are_keys keys ≡ b
          → (c : Bool) → ltb (length places) (length keys / 12) ≡ c → Known limit master rows keys places
      go false f b g c h =
          let n = eqb-false (master_refusal limit master rows 0) 0 f in
          absurd (n (sym (refused_master limit master rows keys places n) ∙ e))
      go true f false g c h = absurd (omega (arith, e, refused_27 limit master rows keys places (eqb-true _ _ f) g))
      go true f true g true h =
          absurd (omega (arith, e, refused_28 limit master rows keys places (eqb-true _ _ f) g (ltb-true (length places) (length keys / 12) h)))
      go true f true g false h =
          record { master_right = eqb-true _ _ f; keys_right = g; room = ltb-false (length places) (length keys / 12) h }

  module _ (low : limit < no_place) (k : Known limit master rows keys places) where
    abbrev rs : List (List ℕ)
    rs = rows_of rows master

    sound_keys : every is_sound_key (keys_in keys) ≡ true
    unfolding are_keys
    sound_keys =
        and_left (every is_sound_key (keys_in keys)) (rising (keys_in keys)) (and_right (eqb (length keys % 12) 0) _ k.keys_right)

    keys_rise : rising (keys_in keys) ≡ true
    unfolding are_keys
    keys_rise =
        and_right (every is_sound_key (keys_in keys)) (rising (keys_in keys)) (and_right (eqb (length keys % 12) 0) _ k.keys_right)

    -- an answer says what a single look-up gives
    answer_says : (key : List ℕ) → is_sound_key key ≡ true → found_as (place_from 0 (place_with key rs)) ≡ find_answer limit master rows key
    answer_says key s = go (place_with key rs) refl
      where
        go : (q : Option ℕ) → place_with key rs ≡ q → found_as (place_from 0 q) ≡ find_answer limit master rows key
        go none e = find_missing limit master rows key (sym k.master_right) (sym s) e
        go (some p) e =
            let z : 0 + p ≡ p = omega arith in
            let l : p < no_place = omega (arith, (place_inside key rs p e).0, length-blocks 200 rows master, rows_few limit low master rows k.master_right) in
            rw (z, ne_eqb p no_place (λ y. omega arith))
            (find_at limit master rows key (sym k.master_right) (sym s) p e)

    answers_say : (ks : List (List ℕ)) → every is_sound_key ks ≡ true
        → map found_as (map (λ key. place_from 0 (place_with key rs)) ks) ≡ map (find_answer limit master rows) ks
    answers_say [] s = refl
    answers_say (key ∷ ks) s =
        rw (answer_says key (and_left (is_sound_key key) (every is_sound_key ks) s), answers_say ks (and_right (is_sound_key key) (every is_sound_key ks) s))

    found : AreFound limit master rows keys (over (whole_walk master rows keys).answers places) (whole_walk master rows keys).comparisons
    unfolding over
    found =
        let a = answers_are (keys_in keys) 0 rs keys_rise (rows_rise rs (master_sound limit master rows k.master_right)) in
        let n : length (whole_walk master rows keys).answers ≡ length keys / 12 =
        ap length a ∙ length-map (keys_in keys) _ ∙ length-blocks 12 (length keys / 12) keys in
        record {
          each = rw (take_at (whole_walk master rows keys).answers _ (length keys / 12) n, a) (answers_say (keys_in keys) sound_keys);
          few = omega (arith, few_made (keys_in keys) 0 rs, length-blocks 200 rows master, length-blocks 12 (length keys / 12) keys);
        }

pub every_lookup : EveryLookup
unfolding many_outcome
every_lookup limit master rows keys places o comparisons low e d =
    let k = done_is (many_refusal limit master rows keys places) places (many_run master rows keys places) comparisons
    (ap (λ (x : ManyOutcome). x.answer) (sym e) ∙ d) in
    let p : o.buffers ≡ over (whole_walk master rows keys).answers places = ap (λ (x : ManyOutcome). x.buffers) e ∙ k.2 in
    rw (p, ← k.1) (found limit master rows keys places low (known limit master rows keys places k.0))
