-- A key written field by field is its fields one behind the other, and keys are compared field by field. Assumes nothing.
use Prim.Native.Nat.{ℕ, ◌+◌, ◌≤◌}
use mathlib.Core.Path.{◌≡◌, sym, ap, ◌∙◌}
use mathlib.Core.Bool.{Bool, ◌&&◌}
use mathlib.Core.List.{List, [], ◌++◌, append-nil}
use native.Mathlib.Omega.{arith}
use lib.Dec.{lit≤}
use lib.ListN.{length, take, drop, length-append, length-drop, drop_of_length-le}
use lib.Seq.{take_at}
use Rattle.text.specs.Fields.{columns, placed, same_bytes}
use Rattle.text.proofs.FieldsLaws.{length-columns}
use Rattle.text.proofs.SameLaws.{same_append}
use Rattle.layout.specs.Record.{record_key}

pub key_steps : (s a b c k l r : List ℕ) → length s ≡ 12 → length a ≡ 2 → length b ≡ 9
    → k ≡ placed 1 2 a s → l ≡ placed 3 11 b k → r ≡ placed 12 12 c l → r ≡ a ++ b ++ c
key_steps s a b c k l r ws wa wb ek el er =
    let lk : length (a ++ drop 2 s) ≡ 12 = simp (length-append, length-drop) (omega arith) in
    let t2 : take 2 (a ++ drop 2 s) ≡ a = take_at a (drop 2 s) 2 wa in
    let wab : length (a ++ b) ≡ 11 = simp length-append (omega arith) in
    let ll : length (a ++ b ++ drop 11 (a ++ drop 2 s)) ≡ 12 = simp (length-append, length-drop) (omega arith) in
    let t11 : take 11 (a ++ b ++ drop 11 (a ++ drop 2 s)) ≡ a ++ b = take_at (a ++ b) (drop 11 (a ++ drop 2 s)) 11 wab in
    let d12 : drop 12 (a ++ b ++ drop 11 (a ++ drop 2 s)) ≡ [] = drop_of_length-le (a ++ b ++ drop 11 (a ++ drop 2 s)) {i = 12} (omega arith) in
    er ∙ rw (el, ek, t2, t11, d12) (append-nil (a ++ b ++ c))

module _ (a b : List ℕ) (wa : length a ≡ 245) (wb : length b ≡ 245) where
  one_width : (first last : ℕ) → 1 ≤ first → first ≤ last + 1 → last ≤ 245 → length (columns first last a) ≡ length (columns first last b)
  one_width first last l o h =
      length-columns first last a (record { low = l; ordered = o; high = omega arith })
      ∙ sym (length-columns first last b (record { low = l; ordered = o; high = omega arith }))

  pub same_keys : same_bytes (record_key a) (record_key b)
      ≡ (same_bytes (columns 1 2 a) (columns 1 2 b) && same_bytes (columns 6 14 a) (columns 6 14 b)
      && same_bytes (columns 74 74 a) (columns 74 74 b))
  same_keys =
      let w1 = one_width 1 2 (lit≤ tt) (lit≤ tt) (lit≤ tt) in
      let w6 = one_width 6 14 (lit≤ tt) (lit≤ tt) (lit≤ tt) in
      let w : length (columns 1 2 a ++ columns 6 14 a) ≡ length (columns 1 2 b ++ columns 6 14 b) =
      length-append (columns 1 2 a) (columns 6 14 a) ∙ rw (w1, w6) (sym (length-append (columns 1 2 b) (columns 6 14 b))) in
      same_append (columns 1 2 a ++ columns 6 14 a) (columns 1 2 b ++ columns 6 14 b) (columns 74 74 a) (columns 74 74 b) w
      ∙ ap (λ (z : Bool). z && same_bytes (columns 74 74 a) (columns 74 74 b))
      (same_append (columns 1 2 a) (columns 1 2 b) (columns 6 14 a) (columns 6 14 b) w1)
