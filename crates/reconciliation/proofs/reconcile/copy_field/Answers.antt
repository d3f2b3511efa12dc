-- `reconcile::copy_field`: what is copied to the front of the array is what is put in. Assumes nothing.
use mathlib.Core.Path.{◌≡◌, ap, ◌∙◌}
use mathlib.Core.List.{List}
use Prim.Native.Nat.{ℕ, ◌+◌, ◌-◌}
use native.Mathlib.Omega.{arith}
use lib.ListN.{length, length-take, length-drop}
use borrow.Author.Rules.{rules}
use Rattle.text.specs.Fields.{placed}
use Rattle.text.proofs.FieldsLaws.{length-columns}
use Rattle.reconciliation.proofs.ReconcileLaws.{front-spliced}
use Rattle.reconciliation.proofs.reconcile.copy_field.Goals as goal
use Rattle.reconciliation.proofs.reconcile.copy_field.Goals.{After-field-field}

-- as wide as the columns
wide : (c : After-field-field) → length c.field-field.result.now ≡ c.args.to.last + 1 - c.args.to.first
wide c = ap length c.field-field.ensures ∙ length-columns _ _ _ c.requires.1 ∙ omega (arith, c.requires)

pub copy_in-requires : goal.copy_in-requires
copy_in-requires c = let w = wide (goal.at.copy_in-requires c).After-field-field in omega (arith, c.requires.3)

pub slice_bounds-put-end : goal.slice_bounds-put-end
slice_bounds-put-end c = let w = wide (goal.at.slice_bounds-put-end c).After-field-field in search rules

pub put-requires : goal.put-requires
put-requires c = let w = wide (goal.at.put-requires c).After-field-field in (search rules, simp (length-take, length-drop) (omega (arith, c.requires)))

pub returns : goal.returns
returns c =
    let a = c.args in
    c.put.ensures
    ∙ ap (λ (z : List ℕ). placed a.to.first a.to.last z a.rec.now) (front-spliced _ _ _ c.copy_in.ensures ∙ c.field-field.ensures)
