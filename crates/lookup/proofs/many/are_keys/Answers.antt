-- `many::are_keys`: whole keys are sound and rise as `are_sound_rising` says. Assumes nothing.
use mathlib.Core.Path.{◌∙◌, sym}
use borrow.Author.Tests.{ne_eqb}
use Rattle.lookup.specs.Many.{are_keys}
use Rattle.lookup.proofs.ManyLaws.{keys_told}
use Rattle.lookup.proofs.many.are_keys.Goals as goal

pub returns-then-keys-ne0 : goal.returns-then-keys-ne0
unfolding are_keys
returns-then-keys-ne0 c = rw (ne_eqb _ _ c.if-keys-ne0.true)

pub returns : goal.returns
returns c =
    c.are_sound_rising.ensures ∙ sym (keys_told c.args.keys.now c.if-keys-ne0.false)
