-- `changes::put_local_code` meets its contract: each branch writes what the definition has for its answer of `contains`. Assumes nothing.
use mathlib.Core.List.{List}
use mathlib.Core.Path.{sym, ap, ◌∙◌}
use Rattle.layout.specs.Locals.{is_listed}
use Rattle.onecase.specs.Changes.{added_local_code}
use Prim.Native.Nat.{ℕ}
use Rattle.onecase.proofs.changes.put_local_code.Goals as goal

pub returns-then-contains : goal.returns-then-contains
unfolding added_local_code
returns-then-contains c =
    let list = c.args.locals.list.now in
    rw (sym (c.contains.ensures ∙ ap (λ (s : List ℕ). is_listed s list) c.field.ensures) ∙ c.if-contains.true, c.copy.ensures)

pub returns-else-contains : goal.returns-else-contains
unfolding added_local_code
returns-else-contains c =
    let list = c.args.locals.list.now in
    rw (sym (c.contains.ensures ∙ ap (λ (s : List ℕ). is_listed s list) c.field.ensures) ∙ c.if-contains.false, c.write.ensures)
