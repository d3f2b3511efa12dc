-- `packed::verdict_in`: a judgement's set is errors alone, in the low part, or warnings alone, in the high part. Assumes nothing.
use Rattle.keywork.proofs.PackedLaws.{with_name, with_errors, without_errors}
use Rattle.keywork.proofs.packed.verdict_in.Goals as goal

pub returns-then-set-eq1 : goal.returns-then-set-eq1
returns-then-set-eq1 c = with_name c.args.number _ c.if-set-eq1.true c.name_in.ensures

pub returns-then-set-ne0 : goal.returns-then-set-ne0
returns-then-set-ne0 c = with_errors c.args.number c.if-set-eq1.false c.if-set-ne0.true

pub returns : goal.returns
returns c = without_errors c.args.number c.if-set-eq1.false c.if-set-ne0.false
