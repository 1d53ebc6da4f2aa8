-- The examples are computed, but for the last days of the calendar, whose dates are told.
use mathlib.Core.Path.{refl}
use lib.Dec.{lit≤}
use Rattle.calendar.specs.Calendar.{date, is_leap, month_length, days_before_month, days_before_year, days_before, is_date, next, date_after, month_on, months_on, end_before, day_number, date_of, last_day}
use Rattle.calendar.specs.Premises.{Needed}
use Rattle.calendar.proofs.Rows.{last_on}

pub needed : Needed
unfolding is_leap month_length days_before_month days_before_year days_before is_date next date_after month_on months_on end_before day_number date_of last_day
needed = record {
  two_bytes = refl;
  no_date = (refl, refl, refl);
  no_year = (refl, refl, refl);
  last_number = (refl, refl, refl);
  no_late_date = refl;
  day_missing = (refl, refl, refl);
  day_there = (refl, refl, refl);
  same_months = (refl, refl);
  inside = (refl, refl);
  many_months = (last_on 65535 (lit≤ tt) (date 2179 6 6) refl (lit≤ tt) refl 12 (lit≤ tt) (lit≤ tt), refl);
}
