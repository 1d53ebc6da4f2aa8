-- The worked dates: near 2000 they are computed, and far from it told by the one date that has the day.
use Prim.Native.Nat.{ℕ, ◌≤◌}
use mathlib.Core.Path.{◌≡◌, refl, ap, ◌∙◌}
use mathlib.Core.Bool.{true}
use lib.Dec.{lit≤}
use lib.IntN.{pos}
use Rattle.calendar.specs.Calendar.{date, is_leap, month_length, days_before_month, days_before_year, days_before, is_date, next, date_after, month_on, months_on, end_before, in_two_bytes, day_number, date_of, last_day}
use Rattle.definition.specs.Answers.{accepted}
use Rattle.calendar.specs.Examples.{later_dates, later_last_days, Told, Examples}
use Rattle.calendar.specs.declared.Date.{Date}
use Rattle.calendar.proofs.Dates.{valid, only_date}
use Rattle.calendar.proofs.Calls.{date_of_lem, last_of}

-- a day that two bytes hold, and the last day of a pass from there
module _ (n : ℕ) (h : n ≤ 65535) (d : Date) (e : is_date d ≡ true) (y : 2000 ≤ d.year) (q : days_before d ≡ n) where
  on : date_after n ≡ d
  on = only_date n d (record { is_valid = valid d e y; counted = q })

  date_on : date_of (pos n) ≡ accepted d
  date_on = date_of_lem n h ∙ ap accepted on

  pub last_on : (k : ℕ) → 1 ≤ k → k ≤ 12 → last_day (pos n) (pos k) ≡ in_two_bytes (end_before (months_on k d))
  last_on k a b = last_of n k h a b ∙ ap (λ (c : Date). in_two_bytes (end_before (months_on k c))) on

infixr 30 ◌also◌
◌also◌ : {P Q : Type 0} → P → Q → P × Q
◌also◌ p q = (p, q)

of_later_dates : Told later_dates
unfolding days_before days_before_year days_before_month month_length is_leap is_date
of_later_dates =
    date_on 8796 (lit≤ tt) (date 2024 1 31) refl (lit≤ tt) refl
    also date_on 8825 (lit≤ tt) (date 2024 2 29) refl (lit≤ tt) refl
    also date_on 36583 (lit≤ tt) (date 2100 2 28) refl (lit≤ tt) refl
    also date_on 36584 (lit≤ tt) (date 2100 3 1) refl (lit≤ tt) refl
    also date_on 65535 (lit≤ tt) (date 2179 6 6) refl (lit≤ tt) refl
    also tt

of_later_last_days : Told later_last_days
unfolding days_before days_before_year days_before_month month_length is_leap is_date month_on months_on end_before
of_later_last_days =
    last_on 8796 (lit≤ tt) (date 2024 1 31) refl (lit≤ tt) refl 1 (lit≤ tt) (lit≤ tt)
    also last_on 8795 (lit≤ tt) (date 2024 1 30) refl (lit≤ tt) refl 1 (lit≤ tt) (lit≤ tt)
    also last_on 8794 (lit≤ tt) (date 2024 1 29) refl (lit≤ tt) refl 1 (lit≤ tt) (lit≤ tt)
    also last_on 8825 (lit≤ tt) (date 2024 2 29) refl (lit≤ tt) refl 12 (lit≤ tt) (lit≤ tt)
    also last_on 36524 (lit≤ tt) (date 2099 12 31) refl (lit≤ tt) refl 2 (lit≤ tt) (lit≤ tt)
    also last_on 36524 (lit≤ tt) (date 2099 12 31) refl (lit≤ tt) refl 3 (lit≤ tt) (lit≤ tt)
    also last_on 65505 (lit≤ tt) (date 2179 5 7) refl (lit≤ tt) refl 1 (lit≤ tt) (lit≤ tt)
    also last_on 65506 (lit≤ tt) (date 2179 5 8) refl (lit≤ tt) refl 1 (lit≤ tt) (lit≤ tt)
    also last_on 65535 (lit≤ tt) (date 2179 6 6) refl (lit≤ tt) refl 12 (lit≤ tt) (lit≤ tt)
    also tt

pub examples : Examples
unfolding is_leap month_length days_before_month days_before_year days_before is_date next date_after month_on months_on end_before day_number date_of last_day
examples =
    record {
      of_leap_years = refl;
      of_day_numbers = refl;
      of_refused_dates = refl;
      of_dates = refl;
      of_later_dates = of_later_dates;
      of_last_days = refl;
      of_later_last_days = of_later_last_days;
    }
