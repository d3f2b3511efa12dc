-- `rejects::reject_record`: the detail's columns are kept and the three fields are put in one behind the other. Assumes nothing.
use mathlib.Core.Path.{◌≡◌, sym, ap, ◌∙◌}
use borrow.Author.Rules.{rules}
use Rattle.layout.specs.Codes.{six_lowest}
use Rattle.text.specs.Fields.{placed}
use Rattle.onecase.specs.Verdict.{meaning}
use Rattle.rejectfile.proofs.RejectsLaws.{codes_in, four_in, reject_written}
use Rattle.text.proofs.SplicedLaws.{spliced_whole}
use Rattle.text.proofs.ColumnsWritten.{written_all}
use Rattle.rejectfile.proofs.rejects.reject_record.Goals as goal

pub returns : goal.returns
returns c =
    let a = c.args in
    let t = c.codes_text-text in
    let w = c.copy_in.ensures ∙ spliced_whole _ a.rec.now (search rules) in
    let e : t.result ≡ six_lowest (meaning a.v).codes = t.ensures ∙ rw (c.set_of.ensures, codes_in a.v) in
    written_all
    (reject_written a.rec.now (meaning a.v) c.requires (four_in a.v) _ _ _ _ _ e
    c.name_columns-name.ensures
    (c.put.ensures ∙ ap (placed 228 239 t.result) w)
    c.put-2.ensures
    c.put-3.ensures)
    (sym c.requires)
