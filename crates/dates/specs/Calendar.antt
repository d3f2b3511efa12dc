-- Document 01, error 15: a Gregorian date CCYYMMDD of 1900–9999. Assumes nothing.
use Rattle.std.specs.Prelude.{ℕ, ◌%◌, List, Bool, not, cond, ◌&&◌, ◌||◌, eqb, leb}
use Rattle.text.specs.Fields.{columns, are_digits, number}

-- every fourth year is a leap year, of the hundreds every fourth
unfoldable pub is_leap : ℕ → Bool
is_leap year = eqb (year % 4) 0 && not (eqb (year % 100) 0) || eqb (year % 400) 0

-- thirty days: April, June, September, November
unfoldable pub is_short : ℕ → Bool
is_short month = eqb month 4 || eqb month 6 || eqb month 9 || eqb month 11

-- the days of a month
unfoldable pub days_in : ℕ → ℕ → ℕ
days_in year month = cond (eqb month 2) (cond (is_leap year) 29 28) (cond (is_short month) 30 31)

-- a day of the calendar, of the years 1900–9999
unfoldable pub is_day : ℕ → ℕ → ℕ → Bool
is_day year month day =
    leb 1900 year && leb year 9999 && (leb 1 month && leb month 12) && (leb 1 day && leb day (days_in year month))

-- eight digits CCYYMMDD that name such a day; what is not eight bytes is no date
unfoldable pub is_date : List ℕ → Bool
is_date s = are_digits 8 s && is_day (number (columns 1 4 s)) (number (columns 5 6 s)) (number (columns 7 8 s))
