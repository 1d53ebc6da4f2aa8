-- Months on and the last day, as the code works them out.
use Prim.Native.Nat.{ℕ, zero, suc, ◌+◌, ◌-◌, ◌≤◌, ◌<◌}
use mathlib.Core.Path.{◌≡◌, refl, sym, ap, ◌∙◌}
use mathlib.Core.Bool.{true}
use native.Mathlib.Nat.{le_trans}
use native.Mathlib.Omega.{arith}
use lib.Dec.{leb, lit≤}
use lib.IntN.{ℤ, pos, negsuc}
use borrow.Table.Steps.{cases}
use borrow.Author.Tests.{leb-true, leb-false, lt-ltb, le-ltb}
use Rattle.definition.specs.Answers.{accepted, refused}
use Rattle.laws.proofs.Answers.{never}
use Rattle.calendar.specs.Calendar.{date, is_leap, days_before, length_at, is_date, date_after, month_on, months_on, end_before, date_of}
use Rattle.calendar.specs.declared.Date.{Date}
use Rattle.calendar.proofs.Dates.{Valid, first, days_are, dated}
use Rattle.calendar.proofs.Months.{Sought, long, follows, months_follow, end_is}
use Rattle.calendar.proofs.Calls.{day_of_lem}
use Rattle.calendar.proofs.Conversions.{late, counted}
use Rattle.calendar.specs.Claims.{number_of}
use Rattle.dates.specs.Fourth.{Later}
use Rattle.dates.proofs.Counting.{at_most_31}
use Rattle.calendar.proofs.Existence.{to_28}

-- ---- months on, within the year and in the next

one_on : (y m d : ℕ) → m < 12 → month_on (date y m d) ≡ date y (m + 1) d
unfolding month_on
one_on y m d h = rw (lt-ltb m 12 h)

next_year : (y m d : ℕ) → 12 ≤ m → month_on (date y m d) ≡ date (y + 1) 1 d
unfolding month_on
next_year y m d h = rw (le-ltb m 12 h)

dates_same : (y z m n d : ℕ) → y ≡ z → m ≡ n → date y m d ≡ date z n d
dates_same y z m n d e f = rw (e, f)

pub in_the_year : (k : ℕ) (d : Date) → d.month + k ≤ 12 → months_on k d ≡ date d.year (d.month + k) d.day
unfolding months_on
in_the_year zero d h = dates_same _ _ _ _ _ refl (omega arith)
in_the_year (suc k) d h =
    ap month_on (in_the_year k d (omega arith)) ∙ one_on d.year (d.month + k) d.day (omega arith) ∙ dates_same _ _ _ _ _ refl (omega arith)

pub in_the_next : (k : ℕ) (d : Date) → d.month ≤ 12 → k ≤ 12 → 12 < d.month + k → months_on k d ≡ date (d.year + 1) (d.month + k - 12) d.day
unfolding months_on
in_the_next zero d m h l = absurd (omega arith)
in_the_next (suc k) d m h l =
    cases (leb (d.month + k) 12)
    (λ t.
    let q : d.month + k ≡ 12 = omega (arith, leb-true (d.month + k) 12 t) in
    ap month_on (in_the_year k d (omega arith)) ∙ next_year d.year (d.month + k) d.day (omega arith) ∙ dates_same _ _ _ _ _ refl (omega arith))
    (λ t.
    let g = leb-false (d.month + k) 12 t in
    ap month_on (in_the_next k d m (omega arith) g) ∙ one_on (d.year + 1) (d.month + k - 12) d.day (omega arith) ∙ dates_same _ _ _ _ _ refl (omega arith))

-- ---- the last day

sought : (d : Date) → Later d → Sought d
sought d l = record { year = l.year; from = l.from; to = l.to; day = l.day }

first_day : (d : Date) → days_before (date d.year d.month 1) ≡ first d
first_day d = omega (arith, days_are (date d.year d.month 1))

pub first_date : (d : Date) → Later d → is_date (date d.year d.month 1) ≡ true
first_date d l = to_28 d.year d.month 1 l.from l.to (lit≤ tt) (lit≤ tt)

pub day_before : (d : Date) → Later d → d.day ≤ length_at d → days_before (date d.year d.month 1) + d.day - 2 ≡ end_before d
day_before d l h = omega (arith, end_is d (sought d l), first_day d, l.day)

pub to_28th : (d : Date) → Later d → d.day ≤ 28 → days_before (date d.year d.month 1) + d.day - 2 ≡ end_before d
to_28th d l h = day_before d l (le_trans h (long d (sought d l)))

pub month_end_lem : (d : Date) → Later d → length_at d < d.day → days_before (date d.year d.month 1) + length_at d - 1 ≡ end_before d
month_end_lem d l h = omega (arith, end_is d (sought d l), first_day d)

-- ---- from a first day, by its date

-- the year is the same or the next, and the day is the same
kept : (k : ℕ) (d : Date) → d.month ≤ 12 → k ≤ 12 → ((months_on k d).year ≤ d.year + 1) × ((months_on k d).day ≡ d.day)
kept k d m h =
    cases (leb (d.month + k) 12)
    (λ t. let q = in_the_year k d (leb-true (d.month + k) 12 t) in rw q (omega arith, refl))
    (λ t. let q = in_the_next k d m h (leb-false (d.month + k) 12 t) in rw q (omega arith, refl))

after_it : (k : ℕ) (d : Date) → Sought d → 1 ≤ k → 1 ≤ first (months_on k d)
unfolding months_on
after_it zero d s h = absurd (omega arith)
after_it (suc k) d s h =
    let e = months_on k d in
    let t = months_follow k d s in
    omega (arith, (follows e t).days, long e t)

-- a date that was accepted
to_2179 : (d : Date) → days_before d ≤ 65535 → d.year ≤ 2179
to_2179 d h = cases (leb d.year 2179) (λ t. leb-true d.year 2179 t) (λ t. absurd (omega (arith, late d (leb-false d.year 2179 t))))

pub first_valid : (day : ℤ) (d : Date) → date_of day ≡ accepted d → Valid d × (d.year ≤ 2179)
unfolding date_of
first_valid (negsuc n) d e = absurd (never e)
first_valid (pos n) d e =
    let p = day_of_lem n e in
    let q = dated n in
    rw (← p.1) (q.is_valid, to_2179 (date_after n) (omega (arith, q.counted, p.0)))

pub later : (k : ℕ) (d : Date) → Valid d → d.year ≤ 2179 → 1 ≤ k → k ≤ 12 → Later (months_on k d)
later k d v y a b =
    let s : Sought d = record { year = v.year; from = v.from; to = v.to; day = v.day } in
    let t = months_follow k d s in
    let q = kept k d v.to b in
    let l = at_most_31 (is_leap d.year) d.month v.from v.to in
    record {
      year = t.year;
      before = omega (arith, q.0);
      from = t.from;
      to = t.to;
      day = t.day;
      days = omega (arith, q.1, l, v.within);
      after = omega (arith, first_day (months_on k d), after_it k d s a);
    }

-- no day of a year after 2179 fits two bytes
pub late_year : (y m k : ℕ) → is_date (date y m k) ≡ true → 2179 < y → refused 25 ≡ number_of (date y m k)
late_year y m k v h = sym (counted.too_late (date y m k) v h)
