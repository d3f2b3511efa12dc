-- `key::is_sound_key_in` meets its contract: the state by its number, then what stands behind it. Assumes nothing.
use mathlib.Core.Path.{◌≡◌, sym, ◌∙◌}
use mathlib.Core.Bool.{true, false}
use borrow.Author.Tests.{eq-eqb}
use Rattle.text.specs.Fields.{columns}
use Rattle.layout.specs.States.{is_state}
use Rattle.layout.specs.Key.{is_sound_key}
use Rattle.layout.proofs.KeyNumberLaws.{key_state}
use Rattle.layout.proofs.key.is_sound_key_in.Goals as goal

pub returns-then-is_code_after : goal.returns-then-is_code_after
unfolding is_sound_key
returns-then-is_code_after c = λ key w b e f.
    let t : is_state (columns 1 2 key) ≡ true =
    key_state key w b ∙ sym (rw (c.state_in.ensures, e) at c.is_code_after.ensures) ∙ c.if-is_code_after.true in
    rw (eq-eqb _ _ w, t) (c.is_sound_behind_in.ensures key w b e f)

pub returns-else-is_code_after : goal.returns-else-is_code_after
unfolding is_sound_key
returns-else-is_code_after c = λ key w b e f.
    let t : is_state (columns 1 2 key) ≡ false =
    key_state key w b ∙ sym (rw (c.state_in.ensures, e) at c.is_code_after.ensures) ∙ c.if-is_code_after.false in
    rw (eq-eqb _ _ w, t)
