-- `calendar::is_leap` meets its contract: the same test as the definition. Assumes nothing.
use mathlib.Core.Path.{refl}
use Rattle.dates.specs.Calendar.{is_leap}
use Rattle.dates.proofs.calendar.is_leap.Goals as goal

pub returns : goal.returns
unfolding is_leap
returns c = refl
