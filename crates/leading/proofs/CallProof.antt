-- Over whole calls: the records read off the output lead there, and 29 comes exactly if no list does. Each follows from the call's promise
-- by the laws of an outcome. Assumes nothing.
use Prim.Native.Nat.{ℕ, ◌+◌, ◌*◌, ◌<◌}
use mathlib.Core.Path.{◌≡◌, refl, sym, ap, ◌∙◌}
use mathlib.Core.List.{List, [], ◌∷◌}
use mathlib.Core.Bool.{Bool, true, false, not, false≢true}
use native.Mathlib.Omega.{arith}
use lib.Dec.{eqb}
use lib.ListN.{length, get_or, drop, length-append}
use lib.Seq.{drop_at}
use Rattle.answers.specs.Answer.{refuse_if, refused, done}
use Rattle.answers.proofs.AnswerLaws.{outcome_refused, done_is, refusal_leaves}
use Rattle.text.specs.Fields.{columns, every}
use Rattle.text.specs.Blocks.{blocks, joined, over}
use Rattle.text.specs.ByteNumbers.{AreBytes}
use Rattle.text.proofs.FieldsLaws.{and_left, and_right}
use Rattle.text.proofs.ByteNumberLaws.{bytes_take, bytes_drop}
use Rattle.text.proofs.WidthLaws.{All, blocks-joined}
use Rattle.layout.specs.Locals.{is_local_list}
use Rattle.casemaster.specs.Row.{row_key, is_sound_row}
use Rattle.caserecords.specs.Differences.{set_of, refusal29}
use Rattle.caserecords.specs.Records.{records_to}
use Rattle.caserecords.specs.RecordsTo.{is_row, refusal30, records_refusal, RecordsOutcome, records_run, records_outcome}
use Rattle.caserecords.proofs.RecordsToLaws.{row_wide}
use Rattle.leading.specs.Leads.{is_correction, Lead, NoneLeads, Pair}
use Rattle.leading.specs.Theorem.{RecordsCall, IsRecordsCall, EveryCall}
use Rattle.leading.proofs.NoneLeadsLaws.{correction_wide}
use Rattle.leading.proofs.LeadsProof.{leads}

-- ---- the bytes of the wanted row

first_byte : (s : List ℕ) → AreBytes s → get_or s 0 0 < 256
first_byte [] h = omega arith
first_byte (b ∷ s) h = h.0

set_byte : (wanted : List ℕ) → AreBytes wanted → set_of wanted < 256
set_byte wanted h = first_byte (columns 195 195 wanted) (bytes_take 1 (drop 194 wanted) (bytes_drop 194 wanted h))

row_sound : (row : List ℕ) → is_row row ≡ true → is_sound_row row ≡ true
unfolding is_row
row_sound row t = and_right (eqb (length row) 200) (is_sound_row row) t

pair : (row wanted : List ℕ) → is_row row ≡ true → is_row wanted ≡ true → AreBytes wanted → Pair row wanted
pair row wanted r w b =
    record {
      wide = row_wide row r;
      sound = row_sound row r;
      wanted_wide = row_wide wanted w;
      wanted_sound = row_sound wanted w;
      wanted_byte = set_byte wanted b;
    }

-- ---- the first refusal, by cases

-- none
record Passed (row wanted list : List ℕ) : Type 0 where
  row_is : is_row row ≡ true
  wanted_is : is_row wanted ≡ true
  no_29 : refusal29 row wanted list ≡ false

-- 29
record Barred (row wanted list : List ℕ) : Type 0 where
  row_is : is_row row ≡ true
  wanted_is : is_row wanted ≡ true
  is_29 : refusal29 row wanted list ≡ true

module _ (row wanted list out : List ℕ) where
  passed : records_refusal row wanted list out ≡ 0 → Passed row wanted list
  unfolding records_refusal
  passed e = go (not (is_local_list list)) (is_row row) (is_row wanted) (refusal29 row wanted list) (refusal30 out) refl refl refl e
    where
      go : (a b c d f : Bool) → is_row row ≡ b → is_row wanted ≡ c → refusal29 row wanted list ≡ d
          → refuse_if a 2 (refuse_if (not b) 4 (refuse_if (not c) 4 (refuse_if d 29 (refuse_if f 30 0)))) ≡ 0 → Passed row wanted list
      go true b c d f p q r e = absurd (omega arith)
      go false false c d f p q r e = absurd (omega arith)
      go false true false d f p q r e = absurd (omega arith)
      go false true true true f p q r e = absurd (omega arith)
      go false true true false f p q r e = record { row_is = p; wanted_is = q; no_29 = r }

  barred : records_refusal row wanted list out ≡ 29 → Barred row wanted list
  unfolding records_refusal
  barred e = go (not (is_local_list list)) (is_row row) (is_row wanted) (refusal29 row wanted list) (refusal30 out) refl refl refl e
    where
      go : (a b c d f : Bool) → is_row row ≡ b → is_row wanted ≡ c → refusal29 row wanted list ≡ d
          → refuse_if a 2 (refuse_if (not b) 4 (refuse_if (not c) 4 (refuse_if d 29 (refuse_if f 30 0)))) ≡ 29 → Barred row wanted list
      go true b c d f p q r e = absurd (omega arith)
      go false false c d f p q r e = absurd (omega arith)
      go false true false d f p q r e = absurd (omega arith)
      go false true true true f p q r e = record { row_is = p; wanted_is = q; is_29 = r }
      go false true true false true p q r e = absurd (omega arith)
      go false true true false false p q r e = absurd (omega arith)

  refusal_29 : is_local_list list ≡ true → is_row row ≡ true → is_row wanted ≡ true → refusal29 row wanted list ≡ true
      → records_refusal row wanted list out ≡ 29
  unfolding records_refusal
  refusal_29 a b c d = rw (a, b, c, d)

-- ---- what is known of a call by its answer

-- carried out
record Carried (c : RecordsCall) (n : ℕ) : Type 0 where
  refusal_is : records_refusal c.row c.wanted c.list c.out ≡ 0
  count_is : n ≡ length (records_to c.row c.wanted)
  after_is : c.after ≡ over (joined (records_to c.row c.wanted)) c.out

module _ (c : RecordsCall) (h : IsRecordsCall c) where
  abbrev refusal : ℕ
  refusal = records_refusal c.row c.wanted c.list c.out

  carried : (n : ℕ) → c.answer ≡ done n → Carried c n
  unfolding records_outcome
  carried n e =
      let k = done_is refusal c.out (records_run c.row c.wanted c.out) n (ap (λ (o : RecordsOutcome). o.answer) (sym h) ∙ e) in
      record { refusal_is = k.0; count_is = sym k.1; after_is = ap (λ (o : RecordsOutcome). o.buffers) h ∙ k.2 }

  refused_known : (k : ℕ) → c.answer ≡ refused k → (c.after ≡ c.out) × (refusal ≡ k)
  unfolding records_outcome
  refused_known k e =
      let r = refusal_leaves refusal c.out (records_run c.row c.wanted c.out) k (ap (λ (o : RecordsOutcome). o.answer) (sym h) ∙ e) in
      (ap (λ (o : RecordsOutcome). o.buffers) h ∙ r.0, r.1)

  comes_29 : refusal ≡ 29 → c.answer ≡ refused 29
  unfolding records_outcome
  comes_29 e =
      ap (λ (o : RecordsOutcome). o.answer)
      (h ∙ sym (outcome_refused refusal c.out (records_run c.row c.wanted c.out) 29 (sym e) (λ z. omega arith)))

-- ---- the records in the output

records_wide : (key : List ℕ) (recs : List (List ℕ)) → every (is_correction key) recs ≡ true → All (λ (b : List ℕ). length b ≡ 245) recs
records_wide key [] t = tt
records_wide key (rec ∷ recs) t =
    (correction_wide key rec (and_left (is_correction key rec) _ t), records_wide key recs (and_right (is_correction key rec) _ t))

joined_wide : (recs : List (List ℕ)) → All (λ (b : List ℕ). length b ≡ 245) recs → length (joined recs) ≡ length recs * 245
unfolding joined
joined_wide [] h = omega arith
joined_wide (rec ∷ recs) h =
    let e = joined_wide recs h.1 in
    let k : length (rec ∷ recs) ≡ length recs + 1 = omega arith in
    length-append rec (joined recs) ∙ omega (arith, h.0)

module _ (c : RecordsCall) (b : AreBytes c.wanted) (n : ℕ) (h : Carried c n) where
  abbrev recs : List (List ℕ)
  recs = records_to c.row c.wanted

  pass : Passed c.row c.wanted c.list
  pass = passed c.row c.wanted c.list c.out h.refusal_is

  all_lead : (year : ℕ) → Lead c.row c.wanted year c.list recs
  all_lead year = (leads c.row c.wanted c.list (pair c.row c.wanted pass.row_is pass.wanted_is b) year).written_lead pass.no_29

  widths : All (λ (b : List ℕ). length b ≡ 245) recs
  widths = records_wide (row_key c.row) recs (all_lead 0).corrections

  read_back : blocks 245 n c.after ≡ recs
  unfolding over
  read_back = rw (h.count_is, h.after_is) (blocks-joined 245 recs (drop (length (joined recs)) c.out) widths)

  rest_kept : drop (n * 245) c.after ≡ drop (n * 245) c.out
  unfolding over
  rest_kept =
      let w : length (joined recs) ≡ n * 245 = joined_wide recs widths ∙ ap (λ (k : ℕ). k * 245) (sym h.count_is) in
      rw (h.after_is, w) (drop_at (joined recs) (drop (n * 245) c.out) (n * 245) w)

-- ---- the theorem

module _ (c : RecordsCall) (b : AreBytes c.wanted) (h : IsRecordsCall c) where
  none_29 : c.answer ≡ refused 29 → (year : ℕ) → NoneLeads c.row c.wanted year c.list
  none_29 e year =
      let d = barred c.row c.wanted c.list c.out (refused_known c h 29 e).1 in
      (leads c.row c.wanted c.list (pair c.row c.wanted d.row_is d.wanted_is b) year).exactly.0 d.is_29

  call_comes_29 : is_local_list c.list ≡ true → is_row c.row ≡ true → is_row c.wanted ≡ true → (year : ℕ)
      → NoneLeads c.row c.wanted year c.list → c.answer ≡ refused 29
  call_comes_29 a r w year l = go (refusal29 c.row c.wanted c.list) refl
    where
      go : (t : Bool) → refusal29 c.row c.wanted c.list ≡ t → c.answer ≡ refused 29
      go true d = comes_29 c h (refusal_29 c.row c.wanted c.list c.out a r w d)
      go false d =
          absurd (false≢true (sym d ∙ (leads c.row c.wanted c.list (pair c.row c.wanted r w b) year).exactly.1 l))

pub every_call : EveryCall
every_call c b h =
    record {
      lead = λ n e year. let k = carried c h n e in rw (read_back c b n k) (all_lead c b n k year);
      kept = λ n e. rest_kept c b n (carried c h n e);
      alone = λ k e. (refused_known c h k e).0;
      none_leads = none_29 c b h;
      comes = call_comes_29 c b h;
    }

-- the row of a call that is carried out has 200 bytes
pub lead_wide : (c : RecordsCall) → AreBytes c.wanted → IsRecordsCall c → (n : ℕ) → c.answer ≡ done n → length c.row ≡ 200
lead_wide c b h n e = row_wide c.row (pass c b n (carried c h n e)).row_is
