-- `fields::copy` meets its contract: `put` writes what `field` hands on, and both are as many columns. Assumes nothing.
use mathlib.Core.List.{List}
use mathlib.Core.Path.{◌≡◌, ap, ◌∙◌}
use Prim.Native.Nat.{ℕ, ◌+◌, ◌-◌}
use native.Mathlib.Omega.{arith}
use lib.ListN.{length}
use Rattle.text.specs.Fields.{placed}
use Rattle.text.proofs.FieldsLaws.{length-columns}
use Rattle.text.proofs.fields.copy.Goals as goal

pub put-requires : goal.put-requires
put-requires c =
    let a = c.args in
    let p = c.requires in
    let w : length c.field.result.now ≡ a.from.last + 1 - a.from.first =
    ap length c.field.ensures ∙ length-columns a.from.first a.from.last a.src.now p.1 in
    (p.0, omega (arith, w, p.2, p.0.ordered, p.1.ordered))

pub returns : goal.returns
returns c =
    let a = c.args in
    c.put.ensures ∙ ap (λ (f : List ℕ). placed a.to.first a.to.last f a.dst.now) c.field.ensures
