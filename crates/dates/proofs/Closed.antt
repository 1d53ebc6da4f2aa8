-- Closed forms of what the definitions count up: the days before a year, before a month, and a month's length.
use Prim.Native.Nat.{ℕ, zero, suc, ◌+◌, ◌*◌, ◌-◌, ◌/◌, ◌%◌, ◌≤◌, ◌<◌}
use mathlib.Core.Path.{◌≡◌, refl, sym}
use mathlib.Core.Bool.{Bool, true, false, ◌||◌, cond}
use native.Mathlib.Omega.{arith}
use lib.Dec.{eqb, ltb}
use borrow.Table.Steps.{cases}
use borrow.Author.Tests.{eqb-true, eqb-false, ltb-true, ltb-false, lt-ltb, le-ltb, ne_eqb}
use Rattle.calendar.specs.Calendar.{is_leap, month_length, days_before_month, days_before_year}
use Rattle.calendar.proofs.Counts.{every, each, year_on}
use Rattle.dates.specs.Fourth.{fourth, days_before_fourth}

-- ---- years

pub leap_is : (y : ℕ) → y ≤ 180 → (y ≡ 100 → ⊥) → is_leap (2000 + y) ≡ fourth y
unfolding is_leap
leap_is y h n =
    let a : (2000 + y) % 4 ≡ y % 4 = omega arith in
    cases (eqb (y % 4) 0)
    (λ e. cases (eqb y 0)
    (λ z. rw (eqb-true y 0 z) refl)
    (λ z.
    let p = eqb-false y 0 z in
    let q : (2000 + y) % 100 ≡ 0 → ⊥ = λ r. omega arith in
    rw (a, e, ne_eqb ((2000 + y) % 100) 0 q) refl))
    (λ e. rw (a, e) refl)

-- 2100 is the only year of 2000 to 2180 at which every fourth goes wrong
pub no_leap_2100 : is_leap 2100 ≡ false
unfolding is_leap
no_leap_2100 = refl

-- what a 29 February 2100 adds: the same before a year and the next, but at 2100
abbrev added : ℕ → ℕ
added y = cond (ltb 100 y) 1 0

added_on : (y : ℕ) → (y ≡ 100 → ⊥) → added (suc y) ≡ added y
added_on y n =
    cases (ltb 100 y)
    (λ e. let h = ltb-true 100 y e in rw (e, lt-ltb 100 (suc y) (omega arith)))
    (λ e. let h = ltb-false 100 y e in rw (e, le-ltb 100 (suc y) (omega arith)))

none_before : days_before_year 0 ≡ 0
unfolding days_before_year
none_before = refl

-- 365 days a year, and one more for each fourth
fourths : (y : ℕ) → (1461 * y + 3) / 4 ≡ 365 * y + (y + 3) / 4
fourths y = omega arith

at_fourth : (y : ℕ) → y % 4 ≡ 0 → (suc y + 3) / 4 ≡ (y + 3) / 4 + 1
at_fourth y h = omega arith

at_others : (y : ℕ) → (y % 4 ≡ 0 → ⊥) → (suc y + 3) / 4 ≡ (y + 3) / 4
at_others y h = omega arith

pub year_is : (y : ℕ) → (1461 * suc y + 3) / 4 ≡ (1461 * y + 3) / 4 + cond (fourth y) 366 365
year_is y =
    cases (fourth y)
    (λ t. rw t (omega (arith, fourths y, fourths (suc y), at_fourth y (eqb-true (y % 4) 0 t))))
    (λ t. rw t (omega (arith, fourths y, fourths (suc y), at_others y (eqb-false (y % 4) 0 t))))

pub years_are : (y : ℕ) → y ≤ 181 → days_before_fourth y ≡ (1461 * y + 3) / 4
years_are zero h = rw none_before
years_are (suc y) h =
    let before = years_are y (omega arith) in
    cases (eqb y 100)
    (λ e. let q = eqb-true y 100 e in rw (year_on y, q, no_leap_2100) (omega (arith, rw q at before)))
    (λ e. let n = eqb-false y 100 e in rw (year_on y, leap_is y (omega arith) n, added_on y n) (omega (arith, before, year_is y)))

-- ---- months

-- the days that February lacks of 30, for the months after it
abbrev pub lack : Bool → ℕ → ℕ
lack leap m = cond (ltb m 3) 0 (cond leap 1 2)

pub months_are : (leap : Bool) (m : ℕ) → 1 ≤ m → m ≤ 13 → days_before_month leap m + lack leap m ≡ (367 * m - 362) / 12
unfolding every days_before_month month_length
months_are leap zero a b = absurd (omega arith)
months_are true (suc m) a b = eqb-true _ _ (each (λ i. eqb (days_before_month true (suc i) + lack true (suc i)) ((367 * suc i - 362) / 12)) 13 refl m (omega arith))
months_are false (suc m) a b = eqb-true _ _ (each (λ i. eqb (days_before_month false (suc i) + lack false (suc i)) ((367 * suc i - 362) / 12)) 13 refl m (omega arith))

pub to_february : (leap : Bool) (m : ℕ) → 1 ≤ m → m < 3 → (367 * m - 362) / 12 ≡ days_before_month leap m
to_february leap m a b = omega (arith, rw (lt-ltb m 3 b) at (months_are leap m a (omega arith)))

pub from_march : (leap : Bool) (m : ℕ) → 3 ≤ m → m ≤ 13 → (367 * m - 362) / 12 ≡ days_before_month leap m + cond leap 1 2
from_march leap m a b = sym (rw (le-ltb m 3 a) at (months_are leap m (omega arith) b))

pub lengths_are : (leap : Bool) (m : ℕ) → 1 ≤ m → m ≤ 12 → (m ≡ 2 → ⊥) → month_length leap m ≡ 30 + (m + m / 8) % 2
unfolding every month_length
lengths_are leap zero a b n = absurd (omega arith)
lengths_are leap (suc m) a b n = eqb-true _ _ (alone leap)
  where
    test : Bool → ℕ → Bool
    test t i = eqb (suc i) 2 || eqb (month_length t (suc i)) (30 + (suc i + suc i / 8) % 2)

    alone : (t : Bool) → eqb (month_length t (suc m)) (30 + (suc m + suc m / 8) % 2) ≡ true
    alone true = rw (ne_eqb (suc m) 2 n) at (each (test true) 12 refl m (omega arith))
    alone false = rw (ne_eqb (suc m) 2 n) at (each (test false) 12 refl m (omega arith))
