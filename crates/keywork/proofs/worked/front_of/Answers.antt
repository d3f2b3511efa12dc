-- `worked::front_of`: without the flag there is no error to judge again. Assumes nothing.
use mathlib.Core.Path.{sym, ◌∙◌}
use Rattle.keywork.proofs.WorkedLaws.{none_wrong}
use Rattle.text.proofs.BoolLaws.{or_left}
use Rattle.keywork.proofs.worked.front_of.Goals as goal

pub returns-else-flag_wrong-again : goal.returns-else-flag_wrong-again
returns-else-flag_wrong-again c = (
  (λ w. c.no_errors.ensures.0 _ _ _ _ (none_wrong _ (sym (or_left _ c.args.again c.if-flag_wrong-again.false) ∙ c.flag_wrong.ensures ∙ w))),
  c.no_errors.ensures.1,
)
