use Rattle.posting.proofs.HintLaws.{within-zeros}
use Rattle.posting.proofs.hints.look_for.Goals as goal

pub loop-left-init : goal.loop-left-init
loop-left-init c = within-zeros 16 _
