-- Months follow each other, and from one to the next the last day of a pass rises.
use Prim.Native.Nat.{ℕ, zero, suc, ◌+◌, ◌-◌, ◌≤◌, ◌<◌, min}
use mathlib.Core.Path.{◌≡◌, refl, sym, ◌∙◌}
use mathlib.Core.Bool.{true, false}
use native.Mathlib.Nat.{lt_trans}
use native.Mathlib.Omega.{arith}
use lib.Dec.{leb, ltb}
use borrow.Table.Steps.{cases}
use borrow.Author.Tests.{leb-true, leb-false, ltb-true, ltb-false}
use Rattle.laws.proofs.Answers.{true_not_false}
use Rattle.calendar.specs.Calendar.{date, is_leap, days_before, length_at, is_date, month_on, months_on, month_end, end_before}
use Rattle.calendar.specs.declared.Date.{Date}
use Rattle.calendar.proofs.Counts.{long_month}
use Rattle.calendar.proofs.Dates.{valid, is_date_lem, first, days_are, month_follows, year_follows}

-- a day, of which there may be none, of a month from 2000 on
pub record Sought (d : Date) : Type 0 where
  pub year : 2000 ≤ d.year
  pub from : 1 ≤ d.month
  pub to : d.month ≤ 12
  pub day : 1 ≤ d.day

pub long : (d : Date) → Sought d → 28 ≤ length_at d
long d s = long_month (is_leap d.year) d.month s.from s.to

-- ---- a month on

pub record Follows (d e : Date) : Type 0 where
  pub sought : Sought e
  pub days : first e ≡ first d + length_at d
  pub same : e.day ≡ d.day

within_year : (d : Date) → Sought d → d.month < 12 → Follows d (date d.year (d.month + 1) d.day)
within_year d s h = record {
  sought = record { year = s.year; from = omega arith; to = omega arith; day = s.day };
  days = month_follows d d.day;
  same = refl;
}

over_the_year : (d : Date) → Sought d → d.month ≡ 12 → Follows d (date (d.year + 1) 1 d.day)
over_the_year d s h = record {
  sought = record { year = omega (arith, s.year); from = omega arith; to = omega arith; day = s.day };
  days = year_follows d d.day s.year h;
  same = refl;
}

pub follows : (d : Date) → Sought d → Follows d (month_on d)
unfolding month_on
follows d s =
    cases (ltb d.month 12)
    (λ e. rw e (within_year d s (ltb-true d.month 12 e)))
    (λ e. rw e (over_the_year d s (omega (arith, ltb-false d.month 12 e, s.to))))

pub months_follow : (k : ℕ) (d : Date) → Sought d → Sought (months_on k d)
unfolding months_on
months_follow zero d s = s
months_follow (suc k) d s = (follows (months_on k d) (months_follow k d s)).sought

-- ---- the last day

pub behind_the_month : (d : Date) → 1 ≤ d.day → is_date d ≡ false → length_at d < d.day
behind_the_month d h e =
    cases (leb d.day (length_at d))
    (λ g. absurd (true_not_false (sym (is_date_lem d h (leb-true d.day (length_at d) g)) ∙ e)))
    (λ g. leb-false d.day (length_at d) g)

pub end_of_date : (d : Date) → is_date d ≡ true → end_before d ≡ days_before d - 1
unfolding end_before
end_of_date d e = rw e

pub end_of_month : (d : Date) → is_date d ≡ false → end_before d ≡ days_before (month_end d)
unfolding end_before
end_of_month d e = rw e

pub end_is : (d : Date) → Sought d → end_before d ≡ first d + min (d.day - 1) (length_at d) - 1
end_is d s =
    cases (is_date d)
    (λ e. let v = valid d e s.year in omega (arith, end_of_date d e, days_are d, v.within, v.day))
    (λ e. omega (arith, end_of_month d e, days_are (month_end d), behind_the_month d s.day e, long d s))

one_rise : (d : Date) → Sought d → end_before d < end_before (month_on d)
one_rise d s =
    let f = follows d s in
    omega (arith, end_is d s, end_is (month_on d) f.sought, f.days, f.same, long d s, long (month_on d) f.sought)

pub ends_rise : (d : Date) → Sought d → (j k : ℕ) → j < k → end_before (months_on j d) < end_before (months_on k d)
unfolding months_on
ends_rise d s j zero h = absurd (omega arith)
ends_rise d s j (suc k) h =
    let r : end_before (months_on k d) < end_before (month_on (months_on k d)) = one_rise (months_on k d) (months_follow k d s) in
    cases (leb (suc j) k)
    (λ e. lt_trans (ends_rise d s j k (leb-true (suc j) k e)) r)
    (λ e. let q : j ≡ k = omega (arith, leb-false (suc j) k e) in rw q r)
