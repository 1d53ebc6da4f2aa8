-- Dates and their days: the day of a date lies in its month and year, so that no other date has it; the next day's is one more.
use Prim.Native.Nat.{ℕ, zero, suc, ◌+◌, ◌-◌, ◌≤◌, ◌<◌}
use mathlib.Core.Path.{◌≡◌, refl, sym, ap, ◌∙◌}
use mathlib.Core.Bool.{Bool, true}
use native.Mathlib.Omega.{arith}
use lib.Dec.{leb, ltb}
use borrow.Table.Steps.{cases}
use borrow.Author.Tests.{leb-true, ltb-true, ltb-false, le-leb, lt-ltb, le-ltb}
use Rattle.laws.proofs.Answers.{both_parts}
use Rattle.calendar.specs.Calendar.{date, is_leap, year_length, month_length, days_before_month, days_before_year, days_before, length_at, is_date, next, date_after}
use Rattle.calendar.specs.declared.Date.{Date}
use Rattle.calendar.proofs.Counts.{one_step, year_on, month_on_lem, years_rise, months_rise, never_falls, whole_year, january, long_month, a_month}

-- a date of a year from 2000 on
pub record Valid (d : Date) : Type 0 where
  pub year : 2000 ≤ d.year
  pub from : 1 ≤ d.month
  pub to : d.month ≤ 12
  pub day : 1 ≤ d.day
  pub within : d.day ≤ length_at d

-- the day of a date
pub within : (d : Date) → is_date d ≡ true → (1 ≤ d.day) × (d.day ≤ length_at d)
unfolding is_date
within d e =
    let b = both_parts (leb 1 d.day) (leb d.day (length_at d)) e in
    (leb-true 1 d.day b.0, leb-true d.day (length_at d) b.1)

pub valid : (d : Date) → is_date d ≡ true → 2000 ≤ d.year → Valid d
valid d e y =
    let w = within d e in
    let m = a_month (is_leap d.year) d.month (omega (arith, w.0, w.1)) in
    record { year = y; from = m.0; to = m.1; day = w.0; within = w.1 }

pub is_date_lem : (d : Date) → 1 ≤ d.day → d.day ≤ length_at d → is_date d ≡ true
unfolding is_date
is_date_lem d l h = rw (le-leb 1 d.day l, le-leb d.day (length_at d) h)

-- ---- the days before a date, by its year and its month

abbrev pub since : Date → ℕ
since d = d.year - 2000

abbrev pub before : Date → ℕ
before d = days_before_month (is_leap d.year) d.month

pub days_are : (d : Date) → days_before d ≡ days_before_year (since d) + before d + (d.day - 1)
unfolding days_before
days_are d = refl

pub month_after : (d : Date) → days_before_month (is_leap d.year) (suc d.month) ≡ before d + length_at d
month_after d = month_on_lem (is_leap d.year) d.month

pub year_after : (d : Date) → 2000 ≤ d.year → days_before_year (suc (since d)) ≡ days_before_year (since d) + year_length d.year
year_after d h =
    let q : 2000 + since d ≡ d.year = omega arith in
    year_on (since d) ∙ ap (λ (y : ℕ). days_before_year (since d) + year_length y) q

-- the days of a year up to a month's end are at most the year's
pub in_year : (d : Date) → d.month ≤ 12 → before d + length_at d ≤ year_length d.year
in_year d h =
    let leap = is_leap d.year in
    let m : days_before_month leap (suc d.month) ≤ days_before_month leap 13 = never_falls (days_before_month leap) (months_rise leap) (suc d.month) 13 (omega arith) in
    omega (arith, m, month_after d, whole_year leap)

-- ---- a month follows another, whichever day of it is meant

-- the days before a date's month
abbrev pub first : Date → ℕ
first d = days_before_year (since d) + before d

pub month_follows : (d : Date) (x : ℕ) → first (date d.year (d.month + 1) x) ≡ first d + length_at d
month_follows d x =
    let leap = is_leap d.year in
    let s : d.month + 1 ≡ suc d.month = omega arith in
    let b : days_before_month leap (d.month + 1) ≡ before d + length_at d = ap (days_before_month leap) s ∙ month_after d in
    omega (arith, b)

pub year_follows : (d : Date) (x : ℕ) → 2000 ≤ d.year → d.month ≡ 12 → first (date (d.year + 1) 1 x) ≡ first d + length_at d
year_follows d x h m =
    let leap = is_leap d.year in
    let s : d.year + 1 - 2000 ≡ suc (since d) = omega arith in
    let a : days_before_year (d.year + 1 - 2000) ≡ days_before_year (since d) + year_length d.year = ap days_before_year s ∙ year_after d h in
    let w : before d + length_at d ≡ year_length d.year = sym (month_after d) ∙ ap (λ (n : ℕ). days_before_month leap (suc n)) m ∙ whole_year leap in
    omega (arith, a, w, january (is_leap (d.year + 1)))

-- ---- no other date has the same day

same_parts : (y z m n d e : ℕ) → y ≡ z → m ≡ n → d ≡ e → date y m d ≡ date z n e
same_parts y z m n d e p q r = rw (p, q, r)

-- of one year
same_month : (d e : Date) → Valid d → Valid e → d.year ≡ e.year → days_before d ≡ days_before e → d.month ≡ e.month
same_month d e v w y q =
    let leap = is_leap d.year in
    let l : leap ≡ is_leap e.year = ap is_leap y in
    let s : since d ≡ since e = ap (λ (n : ℕ). n - 2000) y in
    let f = days_before_month leap in
    let b : before e ≡ f e.month = ap (λ (t : Bool). days_before_month t e.month) (sym l) in
    let n : length_at e ≡ month_length leap e.month = ap (λ (t : Bool). month_length t e.month) (sym l) in
    let a : days_before_year (since d) ≡ days_before_year (since e) = ap days_before_year s in
    one_step f (months_rise leap) d.month e.month (before d + (d.day - 1))
    (omega arith) (omega (arith, month_on_lem leap d.month, v.within, v.day))
    (omega (arith, days_are d, days_are e, a, b)) (omega (arith, days_are d, days_are e, a, b, n, month_on_lem leap e.month, w.within, w.day))

pub same_date : (d e : Date) → Valid d → Valid e → days_before d ≡ days_before e → d ≡ e
same_date d e v w q =
    let k : since d ≡ since e = one_step days_before_year years_rise (since d) (since e) (days_before d)
    (omega (arith, days_are d)) (omega (arith, days_are d, year_after d v.year, in_year d v.to, v.within, v.day))
    (omega (arith, days_are e)) (omega (arith, days_are e, year_after e w.year, in_year e w.to, w.within, w.day)) in
    let y : d.year ≡ e.year = omega (arith, v.year, w.year) in
    let m : d.month ≡ e.month = same_month d e v w y q in
    let a : days_before_year (since d) ≡ days_before_year (since e) = ap days_before_year k in
    let b : before d ≡ before e = rw (y, m) in
    same_parts _ _ _ _ _ _ y m (omega (arith, days_are d, days_are e, a, b, v.day, w.day))

-- ---- the next day

-- the three cases
pub next_in_month : (d : Date) → d.day < length_at d → next d ≡ date d.year d.month (d.day + 1)
unfolding next
next_in_month d h = rw (lt-ltb d.day (length_at d) h)

pub next_in_year : (d : Date) → length_at d ≤ d.day → d.month < 12 → next d ≡ date d.year (d.month + 1) 1
unfolding next
next_in_year d h m = rw (le-ltb d.day (length_at d) h, lt-ltb d.month 12 m)

pub next_year : (d : Date) → length_at d ≤ d.day → 12 ≤ d.month → next d ≡ date (d.year + 1) 1 1
unfolding next
next_year d h m = rw (le-ltb d.day (length_at d) h, le-ltb d.month 12 m)

-- behind a month's last day comes a first
pub first_next : (d : Date) → length_at d ≤ d.day → (next d).day ≡ 1
first_next d h =
    cases (ltb d.month 12)
    (λ e. rw (next_in_year d h (ltb-true d.month 12 e)))
    (λ e. rw (next_year d h (ltb-false d.month 12 e)))

-- what is shown of the next day
pub record Next (d e : Date) : Type 0 where
  pub is_valid : Valid e
  pub one_more_lem : days_before e ≡ days_before d + 1

in_month : (d : Date) → Valid d → d.day < length_at d → Next d (date d.year d.month (d.day + 1))
in_month d v h =
    let e = date d.year d.month (d.day + 1) in
    record {
      is_valid = record { year = v.year; from = v.from; to = v.to; day = omega arith; within = omega arith };
      one_more_lem = omega (arith, days_are d, days_are e, v.day);
    }

month_on_day_1 : (d : Date) → Valid d → d.day ≡ length_at d → d.month < 12 → Next d (date d.year (d.month + 1) 1)
month_on_day_1 d v q m =
    let e = date d.year (d.month + 1) 1 in
    let l : 28 ≤ length_at e = long_month (is_leap d.year) (d.month + 1) (omega arith) (omega arith) in
    record {
      is_valid = record { year = v.year; from = omega arith; to = omega arith; day = omega arith; within = omega arith };
      one_more_lem = omega (arith, days_are d, days_are e, month_follows d 1, v.day);
    }

year_on_day_1 : (d : Date) → Valid d → d.day ≡ length_at d → d.month ≡ 12 → Next d (date (d.year + 1) 1 1)
year_on_day_1 d v q m =
    let e = date (d.year + 1) 1 1 in
    let l : 28 ≤ length_at e = long_month (is_leap (d.year + 1)) 1 (omega arith) (omega arith) in
    record {
      is_valid = record { year = omega (arith, v.year); from = omega arith; to = omega arith; day = omega arith; within = omega arith };
      one_more_lem = omega (arith, days_are d, days_are e, year_follows d 1 v.year m, v.day);
    }

pub next_is : (d : Date) → Valid d → Next d (next d)
next_is d v =
    cases (ltb d.day (length_at d))
    (λ e. let h = ltb-true d.day (length_at d) e in rw (next_in_month d h) (in_month d v h))
    (λ e.
    let h = ltb-false d.day (length_at d) e in
    let q : d.day ≡ length_at d = omega (arith, v.within) in
    cases (ltb d.month 12)
    (λ g. let m = ltb-true d.month 12 g in rw (next_in_year d h m) (month_on_day_1 d v q m))
    (λ g. let m = ltb-false d.month 12 g in rw (next_year d h m) (year_on_day_1 d v q (omega (arith, v.to)))))

-- ---- the date n days after 1 January 2000

pub record Dated (n : ℕ) (d : Date) : Type 0 where
  pub is_valid : Valid d
  pub counted : days_before d ≡ n

day_0 : Dated 0 (date 2000 1 1)
unfolding is_leap month_length days_before_month days_before_year days_before is_date
day_0 = record { is_valid = valid (date 2000 1 1) refl (omega arith); counted = refl }

pub dated : (n : ℕ) → Dated n (date_after n)
unfolding date_after
dated zero = day_0
dated (suc n) =
    let p = dated n in
    let e = next_is (date_after n) p.is_valid in
    record { is_valid = e.is_valid; counted = omega (arith, e.one_more_lem, p.counted) }

-- it is the only one with that day
pub only_date : (n : ℕ) (d : Date) → Dated n d → date_after n ≡ d
only_date n d p = let q = dated n in same_date (date_after n) d q.is_valid p.is_valid (q.counted ∙ sym p.counted)
