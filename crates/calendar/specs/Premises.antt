-- Why the claims have their premises: an input for each.
use Rattle.std.specs.Prelude.{◌+◌, ◌≡◌, false, pos}
use Rattle.definition.specs.Answers.{refused, accepted}
use Rattle.calendar.specs.Calendar.{date, days_before, is_date, next, months_on, month_end, date_of, last_day}
use Rattle.calendar.specs.Claims.{number_of}

pub record Needed : Type 0 where
  -- of `day`, at most 65,535
  pub two_bytes : date_of (pos 65536) ≡ refused 25
  -- of `next_day`, that there is such a date: the day after 30 February 2001 is 1 March, a day before it
  pub no_date : (is_date (date 2001 2 30) ≡ false) × (next (date 2001 2 30) ≡ date 2001 3 1) × (days_before (date 2001 2 30) ≡ days_before (date 2001 3 1) + 1)
  -- of `next_day`, a year from 2000 on: 31 December 1999 is no day before 2000
  pub no_year : (next (date 1999 12 31) ≡ date 2000 1 1) × (days_before (date 1999 12 31) ≡ 364) × (days_before (date 2000 1 1) ≡ 0)
  -- of `next_number`, a day below 65,535
  pub last_number : (number_of (date 2179 6 6) ≡ accepted 65535) × (next (date 2179 6 6) ≡ date 2179 6 7) × (number_of (date 2179 6 7) ≡ refused 25)
  -- of `too_late`, that there is such a date, and a year from 2180 on
  pub no_late_date : number_of (date 2180 2 30) ≡ refused 24
  -- of `same_day`, that there is the same day: a pass from 31 January 2000 doesn't end on the day before a 31 February
  pub day_missing : (last_day (pos 30) (pos 1) ≡ accepted 59) × (months_on 1 (date 2000 1 31) ≡ date 2000 2 31) × (days_before (date 2000 2 31) ≡ 61)
  -- of `no_such_day`, that there is none: a pass from 29 January 2000 ends before February does
  pub day_there : (last_day (pos 28) (pos 1) ≡ accepted 58) × (date_of (pos 58) ≡ accepted (date 2000 2 28)) × (month_end (months_on 1 (date 2000 1 29)) ≡ date 2000 2 29)
  -- of `rise`, more months, and of `stay_above`, at most 12
  pub same_months : (last_day (pos 0) (pos 1) ≡ accepted 30) × (last_day (pos 0) (pos 2) ≡ accepted 59)
  pub many_months : (last_day (pos 65535) (pos 12) ≡ refused 25) × (last_day (pos 65535) (pos 13) ≡ refused 26)
  -- of `months_first`, `no_month` and `no_year`, that they are outside: 12 months, December and 2000 are accepted
  pub inside : (last_day (pos 0) (pos 12) ≡ accepted 365) × (number_of (date 2000 12 31) ≡ accepted 365)
