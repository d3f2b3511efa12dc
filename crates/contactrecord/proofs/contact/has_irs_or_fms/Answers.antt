-- `has_irs_or_fms`: where the searched columns contain neither word no field has one as a run. Assumes nothing.
use mathlib.Core.Path.{sym, ap, ◌∙◌}
use Rattle.text.proofs.BoolLaws.{or_left, or_right}
use Rattle.contactrecord.specs.Contact.{irs, fms}
use Rattle.contactrecord.specs.Wording.{contains}
use Rattle.contactrecord.proofs.ContactLaws.{none_without}
use Rattle.contactrecord.proofs.contact.has_irs_or_fms.Goals as goal

pub returns-then-not-irs-fms : goal.returns-then-not-irs-fms
returns-then-not-irs-fms c =
    let all = c.field-all.ensures in
    let none = c.if-not-irs-fms.true in
    sym (none_without c.args.rec.now c.requires
    (sym (c.holds_three-irs.ensures ∙ ap (contains irs) all) ∙ or_left c.holds_three-irs.result c.holds_three-fms.result none)
    (sym (c.holds_three-fms.ensures ∙ ap (contains fms) all) ∙ or_right c.holds_three-irs.result c.holds_three-fms.result none))
