-- `testing::old_followed`: an unsound old row fails, a sound one goes on with its key. Assumes nothing.
use mathlib.Core.Path.{refl, sym, ◌∙◌}
use Rattle.answers.proofs.RefusalLaws.{number_err, number_ok}
use Rattle.takeback.proofs.PlaceLaws.{old_failed, old_passed}
use Rattle.takeback.proofs.testing.old_followed.Goals as goal

pub returns-then-is_err : goal.returns-then-is_err
returns-then-is_err c =
    let a = c.args in
    old_failed a.journal.now a.o a.at a.s _ _ c.requires c.master_refusal.ensures
    (number_err c.master_refusal.result (sym c.is_err.ensures.value ∙ c.if-is_err.true)) refl

pub returns : goal.returns
returns c =
    let a = c.args in
    old_passed a.journal.now a.o a.at a.s _ _ c.requires c.master_refusal.ensures
    (number_ok c.master_refusal.result (sym c.is_err.ensures.value ∙ c.if-is_err.false)) c.followed.ensures
