-- `changes::start_fresh` meets its contract: 200 spaces take the place of all, then the writes of the definition. Assumes nothing.
use Rattle.text.proofs.SplicedLaws.{spliced_whole}
use Rattle.onecase.proofs.StepsLaws.{fresh_end_steps}
use Rattle.text.specs.Fields.{spaces}
use mathlib.Core.Path.{sym, ◌∙◌}
use Rattle.onecase.proofs.changes.start_fresh.Goals as goal

pub returns : goal.returns
returns c =
    let g = c.args in
    fresh_end_steps g.rec.now _ _ _ _ _ (c.copy_in.ensures ∙ spliced_whole g.row.now (spaces 200) (sym c.requires)) c.put_exclusions.ensures c.copy.ensures c.copy-2.ensures c.write.ensures
