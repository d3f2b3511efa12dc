-- Laws of a key by the numbers of its first eight bytes and of its last four: its state, its SSN and its case type. Assumes nothing.
use mathlib.Core.Path.{◌≡◌, refl, sym, ap, ◌∙◌}
use mathlib.Core.List.{List, [], ◌∷◌}
use Prim.Native.Nat.{ℕ, suc, ◌+◌, ◌*◌, ◌/◌, ◌%◌, ◌<◌}
use native.Mathlib.Omega.{arith}
use lib.ListN.{length, get_or, take, drop}
use Rattle.text.specs.Fields.{columns}
use Rattle.text.specs.ByteNumbers.{AreBytes, bytes_number}
use Rattle.layout.specs.States.{is_state}
use Rattle.layout.specs.StateCodes.{code_of, is_state_code}
use Rattle.layout.proofs.StatesLaws.{state_of-code}

data Twelve : List ℕ → Type 0 where
  twelve : (a b c d e f g h i j k l : ℕ) → a < 256 → b < 256 → c < 256 → d < 256 → e < 256 → f < 256 → g < 256 → h < 256 → i < 256 → j < 256 → k < 256 → l < 256
      → Twelve (a ∷ b ∷ c ∷ d ∷ e ∷ f ∷ g ∷ h ∷ i ∷ j ∷ k ∷ l ∷ [])

twelve_of : (key : List ℕ) → length key ≡ 12 → AreBytes key → Twelve key
twelve_of [] w t = absurd (let x : 0 ≡ 12 = w in omega arith)
twelve_of (a ∷ []) w t = absurd (let x : 1 ≡ 12 = w in omega arith)
twelve_of (a ∷ b ∷ []) w t = absurd (let x : 2 ≡ 12 = w in omega arith)
twelve_of (a ∷ b ∷ c ∷ []) w t = absurd (let x : 3 ≡ 12 = w in omega arith)
twelve_of (a ∷ b ∷ c ∷ d ∷ []) w t = absurd (let x : 4 ≡ 12 = w in omega arith)
twelve_of (a ∷ b ∷ c ∷ d ∷ e ∷ []) w t = absurd (let x : 5 ≡ 12 = w in omega arith)
twelve_of (a ∷ b ∷ c ∷ d ∷ e ∷ f ∷ []) w t = absurd (let x : 6 ≡ 12 = w in omega arith)
twelve_of (a ∷ b ∷ c ∷ d ∷ e ∷ f ∷ g ∷ []) w t = absurd (let x : 7 ≡ 12 = w in omega arith)
twelve_of (a ∷ b ∷ c ∷ d ∷ e ∷ f ∷ g ∷ h ∷ []) w t = absurd (let x : 8 ≡ 12 = w in omega arith)
twelve_of (a ∷ b ∷ c ∷ d ∷ e ∷ f ∷ g ∷ h ∷ i ∷ []) w t = absurd (let x : 9 ≡ 12 = w in omega arith)
twelve_of (a ∷ b ∷ c ∷ d ∷ e ∷ f ∷ g ∷ h ∷ i ∷ j ∷ []) w t = absurd (let x : 10 ≡ 12 = w in omega arith)
twelve_of (a ∷ b ∷ c ∷ d ∷ e ∷ f ∷ g ∷ h ∷ i ∷ j ∷ k ∷ []) w t = absurd (let x : 11 ≡ 12 = w in omega arith)
twelve_of (a ∷ b ∷ c ∷ d ∷ e ∷ f ∷ g ∷ h ∷ i ∷ j ∷ k ∷ l ∷ []) w t = twelve a b c d e f g h i j k l t.0 t.1.0 t.1.1.0 t.1.1.1.0 t.1.1.1.1.0 t.1.1.1.1.1.0 t.1.1.1.1.1.1.0 t.1.1.1.1.1.1.1.0 t.1.1.1.1.1.1.1.1.0 t.1.1.1.1.1.1.1.1.1.0 t.1.1.1.1.1.1.1.1.1.1.0 t.1.1.1.1.1.1.1.1.1.1.1.0
twelve_of (a ∷ b ∷ c ∷ d ∷ e ∷ f ∷ g ∷ h ∷ i ∷ j ∷ k ∷ l ∷ m ∷ s) w t = absurd (let x : suc (suc (suc (suc (suc (suc (suc (suc (suc (suc (suc (suc (suc (length s))))))))))))) ≡ 12 = w in omega arith)

-- its parts
pub record Parts (key : List ℕ) : Type 0 where
  pub state : bytes_number (take 8 key) / 0x1000000000000 ≡ code_of (columns 1 2 key)
  pub ssn : bytes_number (take 8 key) % 0x1000000000000 * 0x10000 + bytes_number (take 4 (drop 8 key)) / 0x10000 ≡ bytes_number (take 8 (columns 3 11 key))
  pub last : bytes_number (take 4 (drop 8 key)) / 0x100 % 0x100 ≡ get_or (columns 3 11 key) 8 0
  pub case_type : bytes_number (take 4 (drop 8 key)) % 0x100 ≡ get_or key 11 0
  pub bytes : AreBytes (columns 3 11 key)
  pub low : get_or (columns 1 2 key) 1 0 < 256
  pub state_wide : length (columns 1 2 key) ≡ 2
  pub ssn_wide : length (columns 3 11 key) ≡ 9

parts_twelve : (key : List ℕ) → Twelve key → Parts key
unfolding bytes_number
parts_twelve key (twelve a b c d e f g h i j k l ha hb hc hd he hf hg hh hi hj hk hl) =
    record {
      state = omega (arith, ha, hb, hc, hd, he, hf, hg, hh);
      ssn = omega (arith, ha, hb, hc, hd, he, hf, hg, hh, hi, hj, hk, hl);
      last = omega (arith, hi, hj, hk, hl);
      case_type = omega (arith, hi, hj, hk, hl);
      bytes = (hc, (hd, (he, (hf, (hg, (hh, (hi, (hj, (hk, tt)))))))));
      low = hb;
      state_wide = refl;
      ssn_wide = refl;
    }

pub parts_of : (key : List ℕ) → length key ≡ 12 → AreBytes key → Parts key
parts_of key w h = parts_twelve key (twelve_of key w h)

-- a state of the table where its number is a state's
pub key_state : (key : List ℕ) → length key ≡ 12 → AreBytes key → is_state (columns 1 2 key) ≡ is_state_code (bytes_number (take 8 key) / 0x1000000000000)
key_state key w h =
    let p = parts_of key w h in
    state_of-code (columns 1 2 key) p.state_wide p.low ∙ ap is_state_code (sym p.state)
