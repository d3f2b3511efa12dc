-- Bytes written one after the other over the front of an output. Assumes nothing.
use Prim.Native.Nat.{ℕ, suc, ◌+◌, ◌<◌}
use mathlib.Core.Path.{◌≡◌, sym, ap, ◌∙◌}
use mathlib.Core.List.{List, ◌++◌}
use native.Mathlib.Omega.{arith}
use native.Mathlib.Numerals.{add-one}
use lib.ListN.{length, get_or, set, take, drop}
use lib.Seq.{length-take-le, take-suc, take-length, drop-cons, append_snoc, set_at}

-- the first i of them written
abbrev pub front : List ℕ → List ℕ → ℕ → List ℕ
front bytes out i = take i bytes ++ drop i out

module _ (bytes out : List ℕ) (i : ℕ) where
  pub front-next : i < length bytes → i < length out → set (front bytes out i) i (get_or bytes i 0) ≡ front bytes out (i + 1)
  front-next h l =
      let v = get_or bytes i 0 in
      ap (λ (r : List ℕ). set (take i bytes ++ r) i v) (drop-cons out i 0 l)
      ∙ set_at (take i bytes) (get_or out i 0) (drop (suc i) out) v i (length-take-le i bytes (omega arith))
      ∙ sym (append_snoc (take i bytes) v (drop (suc i) out))
      ∙ rw (add-one i, take-suc bytes i 0 h)

  pub front_all : i ≡ length bytes → front bytes out i ≡ bytes ++ drop (length bytes) out
  front_all e = rw (e, take-length bytes)
