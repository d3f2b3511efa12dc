-- `apply::finish`: the control record is copied behind the reject records, and the sums of two counts stay in 64 bits. Assumes nothing.
use mathlib.Core.Path.{refl, ap, ◌∙◌}
use Prim.Native.Nat.{◌*◌}
use Rattle.text.specs.Blocks.{spliced}
use Rattle.batch.proofs.apply.finish.Goals as goal

pub returns : goal.returns
returns c =
    record { rejects_after = c.copy_in.ensures ∙ ap (spliced c.args.rejects.now (c.args.s.rejects * 245)) c.control_record-last.ensures; result_value = (refl, refl) }
