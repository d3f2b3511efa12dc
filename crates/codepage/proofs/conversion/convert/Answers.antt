-- `conversion::convert` meets its contract: a place inside the input is refusal 16; at the end every byte has a counterpart, which is its
-- entry. Assumes nothing.
use Prim.Native.Nat.{ℕ, ◌≤◌, ◌<◌}
use mathlib.Core.Path.{◌≡◌, sym, ap, ◌∙◌}
use mathlib.Core.List.{List}
use mathlib.Core.Option.{Option, none, some}
use native.Mathlib.Omega.{arith}
use lib.ListN.{length}
use Rattle.std.specs.Prelude as library
use Rattle.std.specs.Option.{unwrap_or}
use Rattle.codepage.specs.Conversion.{place_without, place_found}
use Rattle.codepage.proofs.ConversionLaws.{bad_inside, conversion_16, conversion_17, conversion_entries}
use Rattle.codepage.proofs.conversion.convert.Goals as goal

-- what the place says, where it is the input's length if none was found
module _ (code : ℕ → Option ℕ) (input : List ℕ) (p : ℕ) where
  stops_at : (o : library.Option ℕ) → place_found o ≡ place_without code input → p ≡ unwrap_or o (length input) → p < length input
      → place_without code input ≡ some p
  stops_at library.None e u l = absurd (omega (arith, u))
  stops_at (library.Some q) e u l = sym e ∙ ap some (sym u)

  passes_by : (o : library.Option ℕ) → place_found o ≡ place_without code input → p ≡ unwrap_or o (length input) → length input ≤ p
      → place_without code input ≡ none
  passes_by library.None e u l = sym e
  passes_by (library.Some q) e u l = absurd (omega (arith, u, bad_inside code input q (sym e)))

pub returns-then-place-input : goal.returns-then-place-input
returns-then-place-input c =
    conversion_16 _ _ _ _ (stops_at _ _ _ c.place_unless_passed.result c.place_unless_passed.ensures c.unwrap_or-place.ensures c.if-place-input.true)

pub returns-then-out-input : goal.returns-then-out-input
returns-then-out-input c =
    conversion_17 _ _ _ (passes_by _ _ _ c.place_unless_passed.result c.place_unless_passed.ensures c.unwrap_or-place.ensures (omega arith)) c.if-out-input.true

pub returns : goal.returns
returns c =
    conversion_entries _ _ _ _ (passes_by _ _ _ c.place_unless_passed.result c.place_unless_passed.ensures c.unwrap_or-place.ensures (omega arith))
    c.if-out-input.false c.write_entries.ensures
