-- Laws of the printed text: the state as letters, and texts written one behind the other. Assumes nothing.
use mathlib.Core.Path.{◌≡◌, refl, sym, ap, ◌∙◌}
use mathlib.Core.List.{List, [], ◌∷◌, ◌++◌, append_assoc}
use Prim.Native.Nat.{ℕ, suc, ◌+◌, ◌-◌, ◌*◌, ◌≤◌, ◌<◌}
use native.Mathlib.Numerals.{add-one}
use native.Mathlib.Omega.{arith}
use lib.ListN.{length, get_or, take, drop, set, length-append, length-take, take-append-drop}
use lib.Seq.{take-suc, take-suc-set, take-take, drop-drop, drop-set-lt}
use Rattle.text.proofs.BlocksLaws.{map_snoc}
use Rattle.text.specs.Blocks.{over, spliced}
use Rattle.text.proofs.SplicedLaws.{take_through, drop-spliced}
use Rattle.apply_output.specs.Ascii.{ascii_letter}
use Rattle.apply_output.specs.Line.{letters, Appended}
use Rattle.layout.specs.Batch.{detail_count, control_of, submitting_state}

-- the first two bytes of the control record
pub control_state_lem : (batch : List ℕ) (at : ℕ) → at ≡ detail_count batch * 245 → take 2 (drop at batch) ≡ submitting_state batch
unfolding control_of
control_state_lem batch at e = rw e (sym (take-take 2 245 (drop (detail_count batch * 245) batch) (omega arith)))

pub length_two : (s : List ℕ) → length (take 2 s) ≤ 2
length_two s = simp length-take (omega arith)

-- one letter more
pub letters-next : (out state : List ℕ) (i b : ℕ) → i < length out → i < length state → take i out ≡ letters (take i state)
    → b ≡ ascii_letter (get_or state i 0) → take (i + 1) (set out i b) ≡ letters (take (i + 1) state)
unfolding letters
letters-next out state i b h k e l =
    rw (add-one, take-suc-set out i b h, take-suc state i 0 k, map_snoc ascii_letter (take i state) (get_or state i 0), e, l)

-- what is kept from one place on is kept from any later one on
pub kept_later : (a b : List ℕ) (m n : ℕ) → m ≤ n → drop m b ≡ drop m a → drop n b ≡ drop n a
kept_later a b m n h e =
    let d : ℕ = n - m in
    let l : n ≡ m + d = omega arith in
    ap (λ (z : ℕ). drop z b) l ∙ sym (drop-drop d m b) ∙ ap (drop d) e ∙ drop-drop d m a ∙ ap (λ (z : ℕ). drop z a) (sym l)

pub length-letters : (s : List ℕ) → length (letters s) ≡ length s
unfolding letters
length-letters [] = refl
length-letters (x ∷ s) = ap suc (length-letters s)

-- the bytes behind a letter more
pub letters_kept : (out₀ out : List ℕ) (i b : ℕ) → drop i out ≡ drop i out₀ → drop (i + 1) (set out i b) ≡ drop (i + 1) out₀
letters_kept out₀ out i b e = drop-set-lt (i + 1) out i b (omega arith) ∙ kept_later out₀ out i (i + 1) (omega arith) e

-- a text spliced in
pub spliced-appended : (d : List ℕ) (at : ℕ) (s e : List ℕ) (end : ℕ) → at ≤ length d → end ≡ at + length s → e ≡ spliced d at s
    → Appended d at s e end
spliced-appended d at s e end h l is =
    record {
      bytes = ap (take end) is ∙ take_through d at s end h l;
      ends = l;
      kept = ap (drop end) is ∙ drop-spliced d at s end h (omega arith);
    }

-- one text behind another
pub appended_then : (a b c : List ℕ) (at mid end : ℕ) (s t : List ℕ) → Appended a at s b mid → Appended b mid t c end
    → Appended a at (s ++ t) c end
appended_then a b c at mid end s t p q =
    record {
      bytes = q.bytes ∙ ap (λ (z : List ℕ). z ++ t) p.bytes ∙ append_assoc (take at a) s t;
      ends = simp length-append (omega (arith, p.ends, q.ends));
      kept = q.kept ∙ kept_later a b mid end (omega (arith, q.ends)) p.kept;
    }

-- a text at the front stands over what was there
pub appended-over : (before after text : List ℕ) (end : ℕ) → Appended before 0 text after end → after ≡ over text before
unfolding over
appended-over before after text end p =
    let e : end ≡ length text = omega (arith, p.ends) in
    sym (take-append-drop end after) ∙ ap (λ (z : List ℕ). z ++ drop end after) p.bytes ∙ rw (← e) (ap (λ (z : List ℕ). text ++ z) p.kept)
