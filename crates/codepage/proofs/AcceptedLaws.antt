-- Laws of accepted files, tested byte by byte. Assumes nothing.
use Prim.Native.Nat.{ℕ, ◌+◌, ◌≤◌, ◌<◌}
use mathlib.Core.Path.{◌≡◌, refl, sym, ap, ◌∙◌, fun_ext}
use mathlib.Core.Bool.{Bool, true, ◌&&◌, and_assoc, and-true}
use mathlib.Core.List.{List, [], ◌∷◌}
use mathlib.Core.Option.{Option, none, some}
use native.Mathlib.Numerals.{add-one}
use lib.ListN.{length, get_or, drop, drop_of_length-le}
use lib.Seq.{drop-cons}
use Rattle.text.proofs.FieldsLaws.{and_left, and_right}
use Rattle.codepage.specs.Tables.{table_of, code_in}
use Rattle.codepage.specs.Accepted.{has_counterpart, every_has_counterpart}
use Rattle.codepage.specs.Conversion.{place_behind, place_without}
use Rattle.codepage.proofs.TablesLaws.{Bytewise, table_says}

module _ (code : ℕ → Option ℕ) (s : List ℕ) (i : ℕ) where
  every_step : i < length s → every_has_counterpart code (drop i s) ≡ (has_counterpart (code (get_or s i 0)) && every_has_counterpart code (drop (i + 1) s))
  unfolding every_has_counterpart
  every_step h = rw (drop-cons s i 0 h, add-one i)

  -- the whole passes where what was read and the rest do: one byte more is read
  pub every-next : (ok r : Bool) → i < length s → every_has_counterpart code s ≡ (ok && every_has_counterpart code (drop i s)) → r ≡ has_counterpart (code (get_or s i 0))
      → every_has_counterpart code s ≡ (ok && r && every_has_counterpart code (drop (i + 1) s))
  every-next ok r h e is = rw is (e ∙ rw (every_step h) (sym (and_assoc ok (has_counterpart (code (get_or s i 0))) (every_has_counterpart code (drop (i + 1) s)))))

  -- all are read
  pub every_end : (ok : Bool) → length s ≤ i → every_has_counterpart code s ≡ (ok && every_has_counterpart code (drop i s)) → ok ≡ every_has_counterpart code s
  unfolding every_has_counterpart
  every_end ok h e = sym (e ∙ rw (drop_of_length-le s h) (and-true ok))

none_bad : (o q : Option ℕ) → has_counterpart o ≡ true → q ≡ none → place_behind o q ≡ none
none_bad none q t e = cc
none_bad (some c) q t e = rw e

pub every-passes : (code : ℕ → Option ℕ) (s : List ℕ) → every_has_counterpart code s ≡ true → place_without code s ≡ none
unfolding every_has_counterpart place_without
every-passes code [] t = refl
every-passes code (b ∷ bs) t =
    none_bad (code b) (place_without code bs) (and_left (has_counterpart (code b)) (every_has_counterpart code bs) t)
    (every-passes code bs (and_right (has_counterpart (code b)) (every_has_counterpart code bs) t))

-- by the table too
pub passes_by_table : (code : ℕ → Option ℕ) → Bytewise code → (table s : List ℕ) (passed : Bool) → passed ≡ every_has_counterpart code s
    → table ≡ table_of code → passed ≡ true → place_without (code_in table) s ≡ none
passes_by_table code w table s passed e t c =
    let f : code_in table ≡ code = ap code_in t ∙ fun_ext (table_says code w) in
    ap (λ (g : ℕ → Option ℕ). place_without g s) f ∙ every-passes code s (sym e ∙ c)
