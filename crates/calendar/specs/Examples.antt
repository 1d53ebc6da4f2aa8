-- Worked dates, which hold by computation: the request's example, the ends of months and years, the order of checks, numbers below 0 and above every date.
use Rattle.std.specs.Prelude.{ℕ, ◌-◌, ◌^◌, ◌≡◌, Bool, true, false, List, [], ◌∷◌, ℤ, pos, negsuc}
use Rattle.definition.specs.Answers.{Checked, refused, accepted}
use Rattle.definition.specs.Examples.{Same}
use Rattle.laws.specs.Claims.{All}
use Rattle.calendar.specs.Calendar.{date, is_leap, day_number, date_of, last_day}
use Rattle.calendar.specs.declared.Date.{Date}

-- the calls with numbers from 0 on
abbrev number : ℕ → ℕ → ℕ → Checked ℕ
number y m d = day_number (pos y) (pos m) (pos d)

abbrev last : ℕ → ℕ → Checked ℕ
last n k = last_day (pos n) (pos k)

abbrev minus_one : ℤ
minus_one = negsuc 0

-- the greatest number that can be handed in
abbrev huge : ℕ
huge = 2 ^ 63 - 1

-- "2100 is no leap year"
abbrev pub leap_years : List (Bool × Bool)
leap_years =
    (is_leap 2000, true)
    ∷ (is_leap 2001, false)
    ∷ (is_leap 2002, false)
    ∷ (is_leap 2003, false)
    ∷ (is_leap 2004, true)
    ∷ (is_leap 2100, false)
    ∷ (is_leap 2104, true)
    ∷ (is_leap 2179, false)
    ∷ (is_leap 2200, false)
    ∷ (is_leap 2300, false)
    ∷ (is_leap 2400, true)
    ∷ []

abbrev pub day_numbers : List (Checked ℕ × Checked ℕ)
day_numbers =
    -- "0 being 1 January 2000"
    (number 2000 1 1, accepted 0)
    ∷ (number 2000 2 1, accepted 31)
    ∷ (number 2000 3 1, accepted 60)
    ∷ (number 2000 4 1, accepted 91)
    ∷ (number 2000 5 1, accepted 121)
    ∷ (number 2000 6 1, accepted 152)
    ∷ (number 2000 7 1, accepted 182)
    ∷ (number 2000 8 1, accepted 213)
    ∷ (number 2000 9 1, accepted 244)
    ∷ (number 2000 10 1, accepted 274)
    ∷ (number 2000 11 1, accepted 305)
    ∷ (number 2000 12 1, accepted 335)
    -- the last days of months, in a year that is no leap year
    ∷ (number 2001 1 31, accepted 396)
    ∷ (number 2001 2 28, accepted 424)
    ∷ (number 2001 3 31, accepted 455)
    ∷ (number 2001 4 30, accepted 485)
    ∷ (number 2001 5 31, accepted 516)
    ∷ (number 2001 6 30, accepted 546)
    ∷ (number 2001 7 31, accepted 577)
    ∷ (number 2001 8 31, accepted 608)
    ∷ (number 2001 9 30, accepted 638)
    ∷ (number 2001 10 31, accepted 669)
    ∷ (number 2001 11 30, accepted 699)
    ∷ (number 2001 12 31, accepted 730)
    -- the ends of February and of years
    ∷ (number 2000 2 29, accepted 59)
    ∷ (number 2000 12 31, accepted 365)
    ∷ (number 2004 2 29, accepted 1520)
    ∷ (number 2004 12 31, accepted 1826)
    ∷ (number 2024 1 31, accepted 8796)
    ∷ (number 2024 2 29, accepted 8825)
    ∷ (number 2096 2 29, accepted 35123)
    ∷ (number 2100 2 28, accepted 36583)
    ∷ (number 2100 3 1, accepted 36584)
    ∷ (number 2100 12 31, accepted 36889)
    ∷ (number 2104 2 29, accepted 38044)
    ∷ (number 2179 6 6, accepted 65535)
    ∷ []

abbrev pub refused_dates : List (Checked ℕ × Checked ℕ)
refused_dates =
    -- no such day
    (number 2001 1 32, refused 24)
    ∷ (number 2001 2 29, refused 24)
    ∷ (number 2001 3 32, refused 24)
    ∷ (number 2001 4 31, refused 24)
    ∷ (number 2001 5 32, refused 24)
    ∷ (number 2001 6 31, refused 24)
    ∷ (number 2001 7 32, refused 24)
    ∷ (number 2001 8 32, refused 24)
    ∷ (number 2001 9 31, refused 24)
    ∷ (number 2001 10 32, refused 24)
    ∷ (number 2001 11 31, refused 24)
    ∷ (number 2001 12 32, refused 24)
    ∷ (number 2000 2 30, refused 24)
    ∷ (number 2100 2 29, refused 24)
    ∷ (number 2001 1 0, refused 24)
    -- no such month
    ∷ (number 2001 0 1, refused 24)
    ∷ (number 2001 13 1, refused 24)
    -- a year before 2000
    ∷ (number 1999 12 31, refused 24)
    ∷ (number 0 1 1, refused 24)
    -- numbers below 0
    ∷ (day_number minus_one (pos 1) (pos 1), refused 24)
    ∷ (day_number (pos 2001) minus_one (pos 1), refused 24)
    ∷ (day_number (pos 2001) (pos 1) minus_one, refused 24)
    -- "25 .. the day answered, above 65535"
    ∷ (number 2179 6 7, refused 25)
    ∷ (number 2300 1 1, refused 25)
    ∷ (number 2400 2 29, refused 25)
    -- 24 comes before 25, also with numbers that are huge
    ∷ (number 2300 2 29, refused 24)
    ∷ (number 2300 2 30, refused 24)
    ∷ (number huge 13 1, refused 24)
    ∷ (number huge 1 0, refused 24)
    ∷ (number huge 0 huge, refused 24)
    ∷ (number 0 huge huge, refused 24)
    ∷ (number 2000 huge 1, refused 24)
    ∷ (number 2000 1 huge, refused 24)
    ∷ []

abbrev pub dates : List (Checked Date × Checked Date)
dates =
    (date_of (pos 0), accepted (date 2000 1 1))
    ∷ (date_of (pos 30), accepted (date 2000 1 31))
    ∷ (date_of (pos 31), accepted (date 2000 2 1))
    ∷ (date_of (pos 59), accepted (date 2000 2 29))
    ∷ (date_of (pos 60), accepted (date 2000 3 1))
    ∷ (date_of (pos 365), accepted (date 2000 12 31))
    ∷ (date_of (pos 366), accepted (date 2001 1 1))
    ∷ (date_of (pos 424), accepted (date 2001 2 28))
    ∷ (date_of (pos 425), accepted (date 2001 3 1))
    -- "25 a day given .. above 65535"; a day below 0 lies before 2000
    ∷ (date_of (pos 65536), refused 25)
    ∷ (date_of (pos huge), refused 25)
    ∷ (date_of minus_one, refused 24)
    ∷ []

-- "one month from 31 January 2024 (8796)"; the end of February 2100; "65,535 is 6 June 2179"
abbrev pub later_dates : List (Checked Date × Checked Date)
later_dates =
    (date_of (pos 8796), accepted (date 2024 1 31))
    ∷ (date_of (pos 8825), accepted (date 2024 2 29))
    ∷ (date_of (pos 36583), accepted (date 2100 2 28))
    ∷ (date_of (pos 36584), accepted (date 2100 3 1))
    ∷ (date_of (pos 65535), accepted (date 2179 6 6))
    ∷ []

abbrev pub last_days : List (Checked ℕ × Checked ℕ)
last_days =
    -- from the first of a month to the end of the month before, over the end of a year, from the ends of months
    (last 0 1, accepted 30)
    ∷ (last 0 12, accepted 365)
    ∷ (last 30 2, accepted 89)
    ∷ (last 349 1, accepted 379)
    ∷ (last 365 2, accepted 424)
    ∷ (last 366 2, accepted 424)
    ∷ (last 516 11, accepted 850)
    ∷ (last 669 1, accepted 699)
    -- "26 months outside 1..12", before the first day is looked at
    ∷ (last 0 0, refused 26)
    ∷ (last 0 13, refused 26)
    ∷ (last 65536 13, refused 26)
    ∷ (last_day minus_one (pos 0), refused 26)
    ∷ (last_day (pos 0) minus_one, refused 26)
    ∷ (last huge huge, refused 26)
    -- "25 a day given .. above 65535"; a day below 0 lies before 2000
    ∷ (last 65536 12, refused 25)
    ∷ (last huge 1, refused 25)
    ∷ (last_day minus_one (pos 1), refused 24)
    ∷ []

abbrev pub later_last_days : List (Checked ℕ × Checked ℕ)
later_last_days =
    -- "one month from 31 January 2024 (8796) ends on 29 February 2024 (8825)"; from 30 January too, from 29 January on 28 February
    (last 8796 1, accepted 8825)
    ∷ (last 8795 1, accepted 8825)
    ∷ (last 8794 1, accepted 8824)
    -- twelve months from 29 February 2024 end on 28 February 2025
    ∷ (last 8825 12, accepted 9190)
    -- from 31 December 2099 on the last of February and on 30 March 2100
    ∷ (last 36524 2, accepted 36583)
    ∷ (last 36524 3, accepted 36613)
    -- the last day that two bytes hold; "25 .. the day answered, above 65535"
    ∷ (last 65505 1, accepted 65535)
    ∷ (last 65506 1, refused 25)
    ∷ (last 65535 12, refused 25)
    ∷ []

-- rows far from 2000 are not counted up to day by day, but told by the law that no other date has the day's number
abbrev pub Told : {A : Type 0} → List (A × A) → Type 0
Told rows = All (λ r. r.0 ≡ r.1) rows

pub record Examples : Type 0 where
  pub of_leap_years : Same leap_years
  pub of_day_numbers : Same day_numbers
  pub of_refused_dates : Same refused_dates
  pub of_dates : Same dates
  pub of_later_dates : Told later_dates
  pub of_last_days : Same last_days
  pub of_later_last_days : Told later_last_days
