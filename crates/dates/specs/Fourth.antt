-- What the code's functions give: days counted with every fourth year a leap year from 2000 on, and what is asked of their arguments.
use Rattle.std.specs.Prelude.{ℕ, ◌+◌, ◌-◌, ◌%◌, ◌≤◌, ◌≡◌, Bool, cond, eqb, ltb}
use Rattle.calendar.specs.Calendar.{date, month_length, days_before_month, days_before_year, days_before}
use Rattle.calendar.specs.declared.Date.{Date}

-- the year 2000 + y is one of every fourth
abbrev pub fourth : ℕ → Bool
fourth y = eqb (y % 4) 0

-- the days before the year 2000 + y, with a 29 February 2100
abbrev pub days_before_fourth : ℕ → ℕ
days_before_fourth y = days_before_year y + cond (ltb 100 y) 1 0

-- the number that a 29 February 2100 has then
abbrev pub no_day : ℕ
no_day = 36584

-- what the day n is counted as
abbrev pub counted : ℕ → ℕ
counted n = cond (ltb n no_day) n (n + 1)

-- what the day r of a year is, from 0, if February has 30 days
abbrev pub widened : Bool → ℕ → ℕ
widened leap r = cond (ltb r (cond leap 60 59)) r (r + cond leap 1 2)

-- a date is the day r, from 0, of the year 2000 + y
pub record InYear (y r : ℕ) (d : Date) : Type 0 where
  pub year : d.year ≡ 2000 + y
  pub from : 1 ≤ d.month
  pub to : d.month ≤ 12
  pub day : 1 ≤ d.day
  pub within : d.day ≤ month_length (fourth y) d.month
  pub counted : days_before_month (fourth y) d.month + (d.day - 1) ≡ r

-- a day, of which there may be none, some months after a first day
pub record Later (d : Date) : Type 0 where
  pub year : 2000 ≤ d.year
  pub before : d.year ≤ 2180
  pub from : 1 ≤ d.month
  pub to : d.month ≤ 12
  pub day : 1 ≤ d.day
  pub days : d.day ≤ 31
  pub after : 1 ≤ days_before (date d.year d.month 1)
