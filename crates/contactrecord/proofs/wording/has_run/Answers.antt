-- `has_run`: a field that doesn't contain the word doesn't have it as a run. Assumes nothing.
use mathlib.Core.Path.{sym, ◌∙◌}
use Rattle.contactrecord.proofs.WordingLaws.{not_contained}
use Rattle.contactrecord.proofs.wording.has_run.Goals as goal

pub returns-then-not-holds_three : goal.returns-then-not-holds_three
returns-then-not-holds_three c =
    let a = c.args in
    let h = c.holds_three in
    sym (not_contained a.word.now a.s.now c.requires (sym h.ensures ∙ c.if-not-holds_three.true))
