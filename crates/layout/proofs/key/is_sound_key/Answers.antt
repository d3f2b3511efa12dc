-- `key::is_sound_key` meets its contract: the definition's tests in turn, on the fields that `field` hands on; another length is unsound. Assumes nothing.
use borrow.Author.Tests.{eq-eqb, ne_eqb}
use Rattle.layout.specs.Key.{is_sound_key}
use Rattle.layout.proofs.key.is_sound_key.Goals as goal

pub returns-then-key-ne12 : goal.returns-then-key-ne12
unfolding is_sound_key
returns-then-key-ne12 c = rw (ne_eqb _ _ c.if-key-ne12.true)

pub returns : goal.returns
unfolding is_sound_key
returns c =
    rw (
      eq-eqb _ _ c.if-key-ne12.false,
      c.is_sound_behind.ensures,
      c.is_state.ensures,
      c.field.ensures,
    )
