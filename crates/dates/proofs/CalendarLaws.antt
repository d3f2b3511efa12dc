-- A law of dates: a date is eight bytes, since it is eight digits. Assumes nothing.
use Prim.Native.Nat.{ℕ}
use mathlib.Core.Path.{◌≡◌}
use mathlib.Core.List.{List}
use mathlib.Core.Bool.{true}
use lib.ListN.{length}
use Rattle.text.specs.Fields.{are_digits}
use Rattle.text.proofs.FieldsLaws.{and_left, digits_width}
use Rattle.dates.specs.Calendar.{is_date}

pub date_wide : (date : List ℕ) → is_date date ≡ true → length date ≡ 8
unfolding is_date
date_wide date t = digits_width 8 date (and_left (are_digits 8 date) _ t)
