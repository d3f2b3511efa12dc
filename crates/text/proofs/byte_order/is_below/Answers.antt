-- `byte_order::is_below` meets its contract: by what `is_twelve_below` and `order_of` ensure. Assumes nothing.
use mathlib.Core.Path.{◌≡◌, refl, ap, ◌∙◌}
use Rattle.std.specs.declared.cmp.Ordering.{Ordering}
use Rattle.std.specs.declared.cmp.Ordering.TheVariants.{Less, Equal, Greater}
use Rattle.std.specs.Ordering.{is_lt}
use Rattle.text.specs.ByteOrder.{order_in, is_less}
use Rattle.text.proofs.byte_order.is_below.Goals as goal

less_in : (o : Ordering) → is_lt o ≡ is_less (order_in o)
unfolding is_less
less_in Less = refl
less_in Equal = refl
less_in Greater = refl

pub returns : goal.returns
returns c = c.is_lt.ensures ∙ less_in c.order_of.result ∙ ap is_less c.order_of.ensures
