-- Days counted up: a count never falls, so that a number lies in one of its steps only; the months of a year, and their days.
use Prim.Native.Nat.{ℕ, zero, suc, ◌+◌, ◌≤◌, ◌<◌}
use mathlib.Core.Path.{◌≡◌, refl}
use mathlib.Core.Bool.{Bool, true, false, ◌&&◌, cond}
use native.Mathlib.Nat.{le_refl, le_trans}
use native.Mathlib.Omega.{arith}
use lib.Dec.{leb}
use lib.ListN.{get_or, get_or-eq_default}
use borrow.Table.Steps.{cases}
use borrow.Author.Tests.{leb-true, leb-false}
use Rattle.laws.proofs.Answers.{both_parts}
use Rattle.calendar.specs.Calendar.{year_length, lengths, month_length, days_before_month, days_before_year}

-- ---- a count f, which never falls from one step to the next
module _ (f : ℕ → ℕ) (step : (k : ℕ) → f k ≤ f (suc k)) where
  pub never_falls : (i j : ℕ) → i ≤ j → f i ≤ f j
  never_falls i zero h = let q : i ≡ 0 = omega arith in rw q (le_refl (f 0))
  never_falls i (suc j) h =
      cases (leb i j)
      (λ e. le_trans (never_falls i j (leb-true i j e)) (step j))
      (λ e. let l : j < i = leb-false i j e in let q : i ≡ suc j = omega arith in rw q (le_refl (f (suc j))))

  -- where x lies in the steps i and j, they are one
  pub one_step : (i j x : ℕ) → f i ≤ x → x < f (suc i) → f j ≤ x → x < f (suc j) → i ≡ j
  one_step i j x a b c d =
      cases (leb (suc i) j)
      (λ e. let h : f (suc i) ≤ f j = never_falls (suc i) j (leb-true (suc i) j e) in absurd (omega arith))
      (λ e. cases (leb (suc j) i)
      (λ g. let h : f (suc j) ≤ f i = never_falls (suc j) i (leb-true (suc j) i g) in absurd (omega arith))
      (λ g. omega (arith, leb-false (suc i) j e, leb-false (suc j) i g)))

-- ---- years and months

pub year_on : (k : ℕ) → days_before_year (suc k) ≡ days_before_year k + year_length (2000 + k)
unfolding days_before_year
year_on k = refl

pub month_on_lem : (leap : Bool) (m : ℕ) → days_before_month leap (suc m) ≡ days_before_month leap m + month_length leap m
unfolding days_before_month
month_on_lem leap m = refl

pub years_rise : (k : ℕ) → days_before_year k ≤ days_before_year (suc k)
years_rise k = omega (arith, year_on k)

pub months_rise : (leap : Bool) (m : ℕ) → days_before_month leap m ≤ days_before_month leap (suc m)
months_rise leap m = omega (arith, month_on_lem leap m)

pub whole_year : (leap : Bool) → days_before_month leap 13 ≡ cond leap 366 365
unfolding days_before_month month_length
whole_year true = refl
whole_year false = refl

pub january : (leap : Bool) → days_before_month leap 1 ≡ 0
unfolding days_before_month month_length
january leap = refl

-- ---- what holds of each number below n by a test

unfoldable pub every : (ℕ → Bool) → ℕ → Bool
every t zero = true
every t (suc n) = t n && every t n

pub each : (t : ℕ → Bool) (n : ℕ) → every t n ≡ true → (m : ℕ) → m < n → t m ≡ true
unfolding every
each t zero e m h = absurd (omega arith)
each t (suc n) e m h =
    let b = both_parts (t n) (every t n) e in
    cases (leb (suc m) n)
    (λ l. each t n b.1 m (leb-true (suc m) n l))
    (λ l. let g : n < suc m = leb-false (suc m) n l in let q : m ≡ n = omega arith in rw q b.0)

-- what is a month has 28 days, and what has a day is a month
pub long_month : (leap : Bool) (m : ℕ) → 1 ≤ m → m ≤ 12 → 28 ≤ month_length leap m
unfolding every month_length
long_month leap zero a b = absurd (omega arith)
long_month true (suc m) a b = leb-true 28 (month_length true (suc m)) (each (λ i. leb 28 (month_length true (suc i))) 12 refl m (omega arith))
long_month false (suc m) a b = leb-true 28 (month_length false (suc m)) (each (λ i. leb 28 (month_length false (suc i))) 12 refl m (omega arith))

pub a_month : (leap : Bool) (m : ℕ) → 1 ≤ month_length leap m → (1 ≤ m) × (m ≤ 12)
unfolding month_length
a_month leap zero h = absurd (omega arith)
a_month leap (suc m) h =
    cases (leb m 11)
    (λ e. (omega arith, omega (arith, leb-true m 11 e)))
    (λ e. let q : get_or (lengths leap) m 0 ≡ 0 = get_or-eq_default (lengths leap) 0 {n = m} (leb-false m 11 e) in absurd (omega arith))
