-- What is claimed of dates (document 02, Two), of Calendar.antt. Each claim is a statement without free variables.
use Rattle.std.specs.Prelude.{ℕ, ◌+◌, ◌≤◌, ◌<◌, ◌≡◌, true, false, ℤ, pos}
use Rattle.definition.specs.Answers.{Checked, refused, accepted, ◌>>=◌}
use Rattle.laws.specs.Claims.{Listed}
use Rattle.calendar.specs.Calendar.{is_leap, year_length, days_before_month, days_before, is_date, next, months_on, month_end, day_number, date_of, last_day}
use Rattle.calendar.specs.declared.Date.{Date}

-- the day number of a date
abbrev pub number_of : Date → Checked ℕ
number_of d = day_number (pos d.year) (pos d.month) (pos d.day)

-- ---- "Both conversions undo each other for all 65,536 days."

-- a date that was given as three numbers
pub record Given (year month day : ℤ) (d : Date) : Type 0 where
  pub years : year ≡ pos d.year
  pub months : month ≡ pos d.month
  pub days : day ≡ pos d.day

pub record Undone : Type 0 where
  -- every day has a date, whose day it is
  pub day : (n : ℕ) → n ≤ 65535 → (date_of (pos n) >>= number_of) ≡ accepted n
  -- every date that is accepted is the date of its day
  pub date : (year month day : ℤ) (n : ℕ) → day_number year month day ≡ accepted n → (d : Date) × Given year month day d × (date_of (pos n) ≡ accepted d)

-- ---- days counted

pub record Counted : Type 0 where
  -- the day after a date is a date, and its number is one more
  pub next_day : (d : Date) → is_date d ≡ true → 2000 ≤ d.year → (is_date (next d) ≡ true) × (days_before (next d) ≡ days_before d + 1)
  pub next_number : (d : Date) (n : ℕ) → number_of d ≡ accepted n → n < 65535 → number_of (next d) ≡ accepted (n + 1)
  -- the days of a year are those of its months
  pub whole_year : (y : ℕ) → days_before_month (is_leap y) 13 ≡ year_length y
  -- no year after 2179 has a day that two bytes hold
  pub too_late : (d : Date) → is_date d ≡ true → 2180 ≤ d.year → number_of d ≡ refused 25

-- ---- passes: k months from the day n on, which is the date d

-- the greatest number below x
pub record GreatestBelow (x r : ℕ) : Type 0 where
  pub below : r < x
  pub greatest : (s : ℕ) → s < x → s ≤ r

pub record Ends : Type 0 where
  -- "The last day is the day before the same day of the month that many months on."
  pub same_day : (n k r : ℕ) (d : Date) → date_of (pos n) ≡ accepted d → last_day (pos n) (pos k) ≡ accepted r → is_date (months_on k d) ≡ true → GreatestBelow (days_before (months_on k d)) r
  -- "If that month has no such day, its last day is the end": the date of the last day, after which another month begins
  pub no_such_day : (n k r : ℕ) (d : Date) → date_of (pos n) ≡ accepted d → last_day (pos n) (pos k) ≡ accepted r → is_date (months_on k d) ≡ false
      → (date_of (pos r) ≡ accepted (month_end (months_on k d))) × ((next (month_end (months_on k d))).day ≡ 1)
  -- more months end later, and if fewer end above 65,535, so do more
  pub rise : (n j k a b : ℕ) → j < k → last_day (pos n) (pos j) ≡ accepted a → last_day (pos n) (pos k) ≡ accepted b → a < b
  pub stay_above : (n j k : ℕ) → j < k → k ≤ 12 → last_day (pos n) (pos j) ≡ refused 25 → last_day (pos n) (pos k) ≡ refused 25
  -- a pass is valid on its first day
  pub first_day : (n k r : ℕ) → last_day (pos n) (pos k) ≡ accepted r → n ≤ r

-- ---- "Checks .. in the order 26, 24, 25"

pub record Checks : Type 0 where
  -- each refuses by a number of the list
  pub numbers : (year month day : ℤ) → Listed (day_number year month day)
  pub dates : (day : ℤ) → Listed (date_of day)
  pub ends : (first months : ℤ) → Listed (last_day first months)
  -- 26 whatever the first day is
  pub months_first : (first : ℤ) (k : ℕ) → (1 ≤ k → k ≤ 12 → ⊥) → last_day first (pos k) ≡ refused 26
  -- 24 however late the year is, and whatever the other numbers are
  pub no_month : (year : ℤ) (m : ℕ) (day : ℤ) → (1 ≤ m → m ≤ 12 → ⊥) → day_number year (pos m) day ≡ refused 24
  pub no_day : (year month : ℤ) → day_number year month (pos 0) ≡ refused 24
  pub no_year : (y : ℕ) (month day : ℤ) → y < 2000 → day_number (pos y) month day ≡ refused 24
  pub no_date : (d : Date) → is_date d ≡ false → number_of d ≡ refused 24
