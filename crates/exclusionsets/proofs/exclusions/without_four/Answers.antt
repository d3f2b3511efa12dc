-- `exclusions::without_four` meets its contract: what goes is blank, and no word. Assumes nothing.
use mathlib.Core.Path.{sym, ap, ◌∙◌}
use mathlib.Core.List.{[]}
use Rattle.text.specs.Fields.{is_blank}
use Rattle.exclusionsets.specs.Exclusions.{words_from}
use Rattle.exclusionsets.proofs.ExclusionsLaws.{words_front}
use Rattle.exclusionsets.proofs.exclusions.without_four.Goals as goal

pub returns-in-Some : goal.returns-in-Some
returns-in-Some c =
    let f = c.in-Some.ensures.cases in
    ap (words_from []) f.0 ∙ words_front c.args.s.now _ (sym (c.if-is_blank.ensures ∙ ap is_blank f.1))
