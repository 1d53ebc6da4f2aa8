-- Every call refuses by a number of the list, and by 24 and 26 whatever the other numbers are.
use Prim.Native.Nat.{ℕ}
use mathlib.Core.Bool.{◌&&◌}
use lib.Dec.{leb}
use lib.IntN.{ℤ, pos, negsuc}
use Rattle.definition.specs.Answers.{accepted}
use Rattle.definition.specs.Refusals.{refusals, among}
use Rattle.laws.proofs.Refusals.{Refuses, low, fine, low_bind, low_check, low_then}
use Rattle.laws.proofs.Numbered.{listed}
use Rattle.calendar.specs.Calendar.{date, days_before, is_date, date_after, months_on, end_before, from_zero, in_two_bytes, period, day_number, date_of, last_day}
use Rattle.calendar.specs.Claims.{Checks}
use Rattle.calendar.proofs.Existence.{no_date, month_24, day_24, year_24, months_26}

by_zero : (z : ℤ) → Refuses (among refusals) (from_zero z)
by_zero (pos n) = fine
by_zero (negsuc n) = low tt

by_size : (n : ℕ) → Refuses (among refusals) (in_two_bytes n)
by_size n = low_check (leb n 65535) 25 (accepted n) tt fine

by_months : (z : ℤ) → Refuses (among refusals) (period z)
by_months (pos n) = low_check (leb 1 n && leb n 12) 26 (accepted n) tt fine
by_months (negsuc n) = low tt

by_day : (z : ℤ) → Refuses (among refusals) (date_of z)
unfolding date_of
by_day z = low_bind (from_zero z) _ (by_zero z) (λ n. low_then (in_two_bytes n) (accepted (date_after n)) (by_size n) fine)

by_date : (year month day : ℤ) → Refuses (among refusals) (day_number year month day)
unfolding day_number
by_date year month day =
    low_bind (from_zero year) _ (by_zero year) (λ y. low_bind (from_zero month) _ (by_zero month) (λ m. low_bind (from_zero day) _ (by_zero day) (λ d.
    low_check (is_date (date y m d) && leb 2000 y) 24 (in_two_bytes (days_before (date y m d))) tt (by_size (days_before (date y m d))))))

by_pass : (first months : ℤ) → Refuses (among refusals) (last_day first months)
unfolding last_day
by_pass first months =
    low_bind (period months) _ (by_months months) (λ k. low_bind (date_of first) _ (by_day first) (λ d. by_size (end_before (months_on k d))))

pub checks : Checks
checks = record {
  numbers = λ year month day. listed _ (by_date year month day);
  dates = λ day. listed _ (by_day day);
  ends = λ first months. listed _ (by_pass first months);
  months_first = months_26;
  no_month = month_24;
  no_day = day_24;
  no_year = year_24;
  no_date = no_date;
}
