-- Document 02, Two: "Validity dates." The calendar, and what the three calls give.
use Rattle.std.specs.Prelude.{ℕ, zero, suc, ◌+◌, ◌-◌, ◌%◌, Bool, ◌&&◌, ◌||◌, not, cond, List, [], ◌∷◌, eqb, leb, ltb, ℤ, pos, negsuc, get_or}
use Rattle.definition.specs.Answers.{Checked, refused, accepted, ◌>>=◌, ◌>>◌, require}
use Rattle.calendar.specs.declared.Date.{Date}

abbrev pub date : ℕ → ℕ → ℕ → Date
date y m d = record { year = y; month = m; day = d }

-- ---- years and months: "Gregorian"

-- every fourth year is a leap year, but of those that end a century only every fourth
unfoldable pub is_leap : ℕ → Bool
is_leap y = eqb (y % 4) 0 && (not (eqb (y % 100) 0) || eqb (y % 400) 0)

abbrev pub year_length : ℕ → ℕ
year_length y = cond (is_leap y) 366 365

-- the months of a year, if it is a leap year or not
abbrev pub lengths : Bool → List ℕ
lengths leap =
    31 ∷ cond leap 29 28 ∷ 31 ∷ 30 ∷ 31 ∷ 30 ∷ 31 ∷ 31 ∷ 30 ∷ 31 ∷ 30 ∷ 31 ∷ []

-- the days of the month m, counted from 1; of what is no month, 0
unfoldable pub month_length : Bool → ℕ → ℕ
month_length leap zero = 0
month_length leap (suc m) = get_or (lengths leap) m 0

-- ---- days counted up

-- the days of a year before its month m
unfoldable pub days_before_month : Bool → ℕ → ℕ
days_before_month leap zero = 0
days_before_month leap (suc m) = days_before_month leap m + month_length leap m

-- the days of the years from 2000 on, before the year 2000 + k
unfoldable pub days_before_year : ℕ → ℕ
days_before_year zero = 0
days_before_year (suc k) = days_before_year k + year_length (2000 + k)

-- "0 being 1 January 2000": the days before a date
unfoldable pub days_before : Date → ℕ
days_before d = days_before_year (d.year - 2000) + days_before_month (is_leap d.year) d.month + (d.day - 1)

-- ---- dates

abbrev pub length_at : Date → ℕ
length_at d = month_length (is_leap d.year) d.month

-- whether there is such a date
unfoldable pub is_date : Date → Bool
is_date d = leb 1 d.day && leb d.day (length_at d)

-- the day after: the next of its month, else the first of the next month, else of the next year
unfoldable pub next : Date → Date
next d =
    cond (ltb d.day (length_at d)) (date d.year d.month (d.day + 1))
    (cond (ltb d.month 12) (date d.year (d.month + 1) 1)
    (date (d.year + 1) 1 1))

-- the date n days after 1 January 2000
unfoldable pub date_after : ℕ → Date
date_after zero = date 2000 1 1
date_after (suc n) = next (date_after n)

-- ---- passes

-- "the same day of the month that many months on", of which there may be none: one month on, and k months
unfoldable pub month_on : Date → Date
month_on d = cond (ltb d.month 12) (date d.year (d.month + 1) d.day) (date (d.year + 1) 1 d.day)

unfoldable pub months_on : ℕ → Date → Date
months_on zero d = d
months_on (suc k) d = month_on (months_on k d)

-- the last day of a date's month
abbrev pub month_end : Date → Date
month_end d = date d.year d.month (length_at d)

-- "The last day is the day before the same day .. If that month has no such day, its last day is the end"
unfoldable pub end_before : Date → ℕ
end_before d = cond (is_date d) (days_before d - 1) (days_before (month_end d))

-- ---- the calls: "Checks: 24 no such date, or a year before 2000; 25 a day given, or the day answered, above 65535; 26 months outside 1..12; in the order 26, 24, 25"

-- no date has a number below 0, and a day below 0 lies in a year before 2000
abbrev pub from_zero : ℤ → Checked ℕ
from_zero (pos n) = accepted n
from_zero (negsuc n) = refused 24

-- "Period passes store a day in two bytes"
abbrev pub in_two_bytes : ℕ → Checked ℕ
in_two_bytes n = require (leb n 65535) 25 >> accepted n

-- "a pass of 1 to 12 months"
abbrev pub period : ℤ → Checked ℕ
period (pos n) = require (leb 1 n && leb n 12) 26 >> accepted n
period (negsuc n) = refused 26

-- "Turn a date into a day number", by year, month and day
unfoldable pub day_number : ℤ → ℤ → ℤ → Checked ℕ
day_number year month day = do
  y ← from_zero year
  m ← from_zero month
  d ← from_zero day
  require (is_date (date y m d) && leb 2000 y) 24
  in_two_bytes (days_before (date y m d))

-- "and back"
unfoldable pub date_of : ℤ → Checked Date
date_of day = do
  n ← from_zero day
  in_two_bytes n
  accepted (date_after n)

-- "from the day number of its first day, give the day number of the last valid day of a pass of 1 to 12 months"
unfoldable pub last_day : ℤ → ℤ → Checked ℕ
last_day first months = do
  k ← period months
  d ← date_of first
  in_two_bytes (end_before (months_on k d))
