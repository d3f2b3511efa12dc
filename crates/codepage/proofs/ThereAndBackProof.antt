-- Conversion there and back is the identity on every file that is accepted: each byte's counterpart has the byte for its own.
-- Assumes nothing.
use Prim.Native.Nat.{ℕ, ◌≤◌}
use mathlib.Core.Path.{◌≡◌, refl, sym, ap, ◌∙◌}
use mathlib.Core.Bool.{true, false, false≢true}
use mathlib.Core.List.{List, [], ◌∷◌}
use mathlib.Core.Option.{Option, none, some}
use native.Mathlib.Omega.{arith}
use lib.ListN.{length, take}
use lib.Seq.{take_at}
use borrow.Author.Tests.{ltb-false}
use Rattle.answers.specs.Answer.{is_carried_out}
use Rattle.answers.proofs.AnswerLaws.{refuse_none, none_holds}
use Rattle.text.specs.Blocks.{over}
use Rattle.codepage.specs.CodePage.{ebcdic_of, ascii_of}
use Rattle.codepage.specs.Conversion.{place_without, counterparts, refusal16, refusal17, conversion_refusal, conversion_run, ConversionOutcome, conversion_outcome, IsConversion}
use Rattle.codepage.specs.ThereAndBack.{Undone, ThereAndBack}
use Rattle.codepage.proofs.ConversionLaws.{passes_head, passes_tail, length-counterparts, conversion_done}
use Rattle.codepage.proofs.CodePageLaws.{ebcdic_bytewise, ascii_bytewise, inverse_tables, undoes_code}

-- ---- the bytes

module _ (there back : ℕ → Option ℕ) (u : (b c : ℕ) → there b ≡ some c → back c ≡ some b) where
  back_passes : (s : List ℕ) → place_without there s ≡ none → place_without back (counterparts there s) ≡ none
  unfolding place_without counterparts
  back_passes [] e = refl
  back_passes (b ∷ bs) e =
      let h = passes_head there b bs e in
      rw (h.1, u b h.0 h.1, back_passes bs (passes_tail there b bs e))

  back_again : (s : List ℕ) → place_without there s ≡ none → counterparts back (counterparts there s) ≡ s
  unfolding counterparts
  back_again [] e = refl
  back_again (b ∷ bs) e =
      let h = passes_head there b bs e in
      rw (h.1, u b h.0 h.1) (ap (λ (l : List ℕ). b ∷ l) (back_again bs (passes_tail there b bs e)))

-- ---- a call that is carried out

pub record Passed (code : ℕ → Option ℕ) (input out : List ℕ) : Type 0 where
  pub each : place_without code input ≡ none
  pub room : length input ≤ length out

place_none : (o : Option ℕ) → refusal16 o ≡ false → o ≡ none
place_none none e = refl
place_none (some p) e = absurd (false≢true (sym e))

carried : (code : ℕ → Option ℕ) (input out : List ℕ) (o : ConversionOutcome) → IsConversion code input out o → is_carried_out o.outcome.answer ≡ true
    → Passed code input out
unfolding conversion_refusal conversion_outcome
carried code input out o is e =
    let z = none_holds (conversion_refusal code input out) out (conversion_run code input out)
    (ap (λ (q : ConversionOutcome). is_carried_out q.outcome.answer) (sym is.is) ∙ e) in
    let a = refuse_none (refusal16 (place_without code input)) 15 _ z in
    let b = refuse_none (refusal17 input out) 16 0 a.1 in
    record { each = place_none (place_without code input) a.0; room = ltb-false (length out) (length input) b.0 }

-- what it leaves: the counterparts at the front
front_left : (code : ℕ → Option ℕ) (input out : List ℕ) (o : ConversionOutcome) → IsConversion code input out o → Passed code input out
    → take (length input) o.outcome.buffers ≡ counterparts code input
unfolding over
front_left code input out o is w =
    let e = is.is ∙ sym (conversion_done code input out w.each w.room) in
    ap (λ (q : ConversionOutcome). take (length input) q.outcome.buffers) e
    ∙ take_at (counterparts code input) _ (length input) (length-counterparts code input w.each)

-- ---- two calls

undone : (there back : ℕ → Option ℕ) → ((b c : ℕ) → there b ≡ some c → back c ≡ some b) → Undone there back
undone there back u input out other o p first carried_out second room =
    let w = carried there input out o first carried_out in
    let f = front_left there input out o first w in
    let n = length-counterparts there input w.each in
    let s = rw f at second in
    let v : Passed back (counterparts there input) other = record { each = back_passes there back u input w.each; room = omega arith } in
    let e = s.is ∙ sym (conversion_done back (counterparts there input) other v.each v.room) in (
      ap (λ (q : ConversionOutcome). is_carried_out q.outcome.answer) e,
      sym (ap (λ (k : ℕ). take k p.outcome.buffers) n) ∙ front_left back (counterparts there input) other p s v ∙ back_again there back u input w.each,
    )

pub there_and_back : ThereAndBack
there_and_back =
    record {
      from_ascii = undone ebcdic_of ascii_of (undoes_code ebcdic_of ascii_of ebcdic_bytewise ascii_bytewise inverse_tables.from_ascii);
      from_ebcdic = undone ascii_of ebcdic_of (undoes_code ascii_of ebcdic_of ascii_bytewise ebcdic_bytewise inverse_tables.from_ebcdic);
    }
