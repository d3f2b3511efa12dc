use mathlib.Core.Path.{sym, ap, ◌∙◌}
use mathlib.Core.List.{[]}
use Rattle.text.specs.Fields.{is_blank}
use Rattle.exclusionsets.specs.Exclusions.{words_from}
use Rattle.exclusionsets.proofs.ExclusionsLaws.{words_front}
use Rattle.exclusionsets.proofs.exclusions.without_eights.Goals as goal

pub loop-front-preserved : goal.loop-front-preserved
loop-front-preserved c =
    let f = c.in-Some.ensures.cases in
    let t = sym (c.if-not-is_blank.ensures ∙ ap is_blank f.1) in
    ap (words_from []) f.0 ∙ words_front c.loop-front.part.now _ t ∙ c.loop-front.invariant
