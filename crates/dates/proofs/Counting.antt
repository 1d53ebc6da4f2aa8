-- Days counted with every fourth year a leap year: up to 28 February 2100 they are the days, and from 1 March 2100 on one more.
use Prim.Native.Nat.{ℕ, suc, ◌+◌, ◌-◌, ◌≤◌, ◌<◌}
use mathlib.Core.Path.{◌≡◌, sym, ap, ◌∙◌}
use mathlib.Core.Bool.{Bool, true, false, cond}
use native.Mathlib.Omega.{arith}
use lib.Dec.{eqb, ltb, lit≤}
use borrow.Table.Steps.{cases}
use borrow.Author.Tests.{eqb-true, eqb-false, ltb-true, ltb-false, lt-ltb, le-ltb}
use Rattle.calendar.specs.Calendar.{date, is_leap, month_length, days_before_month, days_before_year, days_before, is_date}
use Rattle.calendar.proofs.Counts.{never_falls, years_rise, months_rise, month_on_lem, whole_year}
use Rattle.calendar.proofs.Dates.{valid, is_date_lem, since, before, days_are, year_after, in_year}
use Rattle.dates.specs.Fourth.{fourth, days_before_fourth, no_day}
use Rattle.dates.proofs.Closed.{leap_is, no_leap_2100, years_are, to_february, from_march, lengths_are}

-- the days before the day d of the month m of the year 2000 + y, so counted
abbrev pub counted_to : ℕ → ℕ → ℕ → ℕ
counted_to y m d = days_before_fourth y + days_before_month (fourth y) m + (d - 1)

-- the days x that a count n stands for; none stands for 29 February 2100
pub record Stands (n x : ℕ) : Type 0 where
  pub other_day : n ≡ no_day → ⊥
  pub moved : x ≡ cond (ltb n no_day) n (n - 1)

before_2100 : (n x : ℕ) → n < no_day → x ≡ n → Stands n x
before_2100 n x h e = record { other_day = λ q. omega arith; moved = rw (lt-ltb n no_day h) e }

after_2100 : (n x : ℕ) → no_day < n → x + 1 ≡ n → Stands n x
after_2100 n x h e = record { other_day = λ q. omega arith; moved = rw (le-ltb n no_day (omega arith)) (omega arith) }

-- ---- 2100

-- its months, with 29 and with 28 days in February
to_march : (m : ℕ) → 1 ≤ m → m < 3 → days_before_month true m ≡ days_before_month false m
to_march m a b = sym (to_february true m a b) ∙ to_february false m a b

after_march : (m : ℕ) → 3 ≤ m → m ≤ 12 → days_before_month true m ≡ days_before_month false m + 1
after_march m a b = omega (arith, from_march true m a (omega arith), from_march false m a (omega arith))

-- the days before 2100, and before its March
before_it : days_before_year 100 ≡ 36525
before_it = let q = years_are 100 (lit≤ tt) in omega (arith, q)

before_march : days_before_month false 3 ≡ 59
before_march = omega (arith, from_march false 3 (lit≤ tt) (lit≤ tt))

in_2100 : (m d : ℕ) → is_date (date 2100 m d) ≡ true → Stands (counted_to 100 m d) (days_before (date 2100 m d))
in_2100 m d e =
    let v = valid (date 2100 m d) e (lit≤ tt) in
    let q : days_before (date 2100 m d) ≡ days_before_year 100 + days_before_month false m + (d - 1) = rw no_leap_2100 at (days_are (date 2100 m d)) in
    let w : d ≤ month_length false m = rw no_leap_2100 at v.within in
    let f = never_falls (days_before_month false) (months_rise false) in
    cases (ltb m 3)
    (λ t.
    let h = ltb-true m 3 t in
    let a = f (suc m) 3 h in
    before_2100 _ _ (omega (arith, a, before_it, before_march, month_on_lem false m, to_march m v.from h)) (omega (arith, q, to_march m v.from h)))
    (λ t.
    let h = ltb-false m 3 t in
    let a = f 3 m h in
    let b = after_march m h v.to in
    after_2100 _ _ (omega (arith, a, b, before_it, before_march)) (omega (arith, q, b)))

-- ---- the other years

of_others : (y m d : ℕ) → y ≤ 180 → (y ≡ 100 → ⊥) → is_date (date (2000 + y) m d) ≡ true → Stands (counted_to y m d) (days_before (date (2000 + y) m d))
of_others y m d h n e =
    let x = date (2000 + y) m d in
    let v = valid x e (omega arith) in
    let z : since x ≡ y = omega arith in
    let a : days_before_year (since x) ≡ days_before_year y = ap days_before_year z in
    let b : before x ≡ days_before_month (fourth y) m = ap (λ (t : Bool). days_before_month t m) (leap_is y h n) in
    cases (ltb 100 y)
    (λ t.
    let l = ltb-true 100 y t in
    let k = rw t at (years_are y (omega arith)) in
    rw t (after_2100 _ _ (omega (arith, k)) (omega (arith, days_are x, a, b))))
    (λ t.
    let l = ltb-false 100 y t in
    let k = never_falls days_before_year years_rise (suc (since x)) 100 (omega arith) in
    rw t (before_2100 _ _ (omega (arith, k, before_it, year_after x v.year, in_year x v.to, v.within, a, b)) (omega (arith, days_are x, a, b))))

pub stands : (y m d : ℕ) → y ≤ 180 → is_date (date (2000 + y) m d) ≡ true → Stands (counted_to y m d) (days_before (date (2000 + y) m d))
stands y m d h e =
    cases (eqb y 100)
    (λ t. let q = eqb-true y 100 t in rw q (in_2100 m d (rw q at e)))
    (λ t. of_others y m d h (eqb-false y 100 t) e)

short_february : (d : ℕ) → d ≤ month_length true 2 → (counted_to 100 2 d ≡ no_day → ⊥) → d ≤ month_length false 2
unfolding month_length
short_february d l n = omega (arith, before_it, to_february true 2 (lit≤ tt) (lit≤ tt))

in_february : (m d : ℕ) → 1 ≤ m → m ≤ 12 → d ≤ month_length true m → (counted_to 100 m d ≡ no_day → ⊥) → d ≤ month_length false m
in_february m d a b l n =
    cases (eqb m 2)
    (λ t. let q = eqb-true m 2 t in rw q (short_february d (rw q at l) (rw q at n)))
    (λ t. let o = eqb-false m 2 t in omega (arith, lengths_are true m a b o, lengths_are false m a b o))

-- a day within its month, so counted, is a date but for 29 February 2100
pub exists : (y m d : ℕ) → y ≤ 180 → 1 ≤ m → m ≤ 12 → 1 ≤ d → d ≤ month_length (fourth y) m → (counted_to y m d ≡ no_day → ⊥) → is_date (date (2000 + y) m d) ≡ true
exists y m d h a b c l n = is_date_lem (date (2000 + y) m d) c (cases (eqb y 100)
    (λ t. let q = eqb-true y 100 t in rw (q, no_leap_2100) (in_february m d a b (rw q at l) (rw q at n)))
    (λ t. rw (leap_is y h (eqb-false y 100 t)) l))

-- ---- a date by its year

february : (leap : Bool) → month_length leap 2 ≤ 31
unfolding month_length
february true = lit≤ tt
february false = lit≤ tt

whole_length : (leap : Bool) → days_before_month leap 13 ≤ 366
whole_length true = rw (whole_year true) (lit≤ tt)
whole_length false = rw (whole_year false) (lit≤ tt)

pub year_stands : (year m d : ℕ) → is_date (date year m d) ≡ true → 2000 ≤ year → year ≤ 2180 → Stands (counted_to (year - 2000) m d) (days_before (date year m d))
year_stands year m d e a b =
    let q : 2000 + (year - 2000) ≡ year = omega arith in
    rw q at (stands (year - 2000) m d (omega arith) (rw q e))

-- the count is below 2^17: a month has at most 31 days, and they begin within a year
pub at_most_31 : (leap : Bool) (m : ℕ) → 1 ≤ m → m ≤ 12 → month_length leap m ≤ 31
at_most_31 leap m a b =
    cases (eqb m 2)
    (λ t. rw (eqb-true m 2 t) (february leap))
    (λ t. omega (arith, lengths_are leap m a b (eqb-false m 2 t)))

pub small : (y m d : ℕ) → y ≤ 180 → m ≤ 12 → d ≤ 31 → counted_to y m d < 131072
small y m d h b l =
    let t = fourth y in
    omega (arith, years_are y (omega arith), never_falls (days_before_month t) (months_rise t) m 13 (omega arith), whole_length t)

pub small_days : (year m d : ℕ) → is_date (date year m d) ≡ true → 2000 ≤ year → year ≤ 2180 → days_before (date year m d) < 131072
small_days year m d e a b =
    let v = valid (date year m d) e a in
    let n = counted_to (year - 2000) m d in
    let l : n < 131072 = small (year - 2000) m d (omega arith) v.to (omega (arith, v.within, at_most_31 (is_leap year) m v.from v.to)) in
    let s = (year_stands year m d e a b).moved in
    cases (ltb n no_day) (λ t. omega (arith, rw t at s)) (λ t. omega (arith, rw t at s))
