-- `is_code` is membership among the state codes: the comparison with each code of the table, gathered. Assumes nothing.
use mathlib.Core.Bool.{Bool, false, ◌||◌}
use mathlib.Core.List.{List}
use mathlib.Core.Path.{◌∙◌}
use Prim.Native.Nat.{ℕ}
use native.Mathlib.Omega.{arith}
use borrow.Author.Tests.{tests}
use lib.Dec.{eqb}
use Rattle.std.proofs.lemmas.Iterator.{YieldsList-from_slice}
use Rattle.std.proofs.lemmas.Iterator.Consumers.{fold_from_yields_List}
use Rattle.layout.specs.States.{state_table}
use Rattle.layout.specs.StateCodes.{code_of, state_codes, is_state_code}
use Rattle.layout.proofs.StatesLaws.{in-fold, code-bytes}
use Rattle.layout.proofs.states.is_code.Goals as goal

pub returns : goal.returns
unfolding is_state_code state_codes
returns c =
    let x = c.args.x in
    fold_from_yields_List _ (λ (b : Bool) (t : List ℕ). b || eqb x (code_of t)) false _ c.fold.ensures.ran (YieldsList-from_slice state_table cc) (λ b t r q k. grind (arith, tests, code-bytes))
    ∙ in-fold x false state_table
