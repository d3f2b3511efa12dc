-- `byte_order::is_twelve_below_in` meets its contract: keys of twelve bytes stand as their numbers do. Assumes nothing.
use mathlib.Core.Path.{sym}
use Rattle.text.proofs.ByteNumberLaws.{key_order}
use Rattle.text.proofs.byte_order.is_twelve_below_in.Goals as goal

pub returns : goal.returns
returns c = λ a b l k p q e f g h. rw (e, f, g, h) (sym (key_order a b l k p q))
