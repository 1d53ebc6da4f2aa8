-- Whether there is a date, by its day and its month, and what 24 and 26 refuse.
use Prim.Native.Nat.{ℕ, ◌≤◌, ◌<◌}
use mathlib.Core.Path.{◌≡◌, refl}
use mathlib.Core.Bool.{true, false, ◌&&◌}
use native.Mathlib.Nat.{le_trans}
use native.Mathlib.Omega.{arith}
use lib.Dec.{leb}
use lib.IntN.{ℤ, pos, negsuc}
use borrow.Table.Steps.{cases}
use borrow.Author.Tests.{leb-true, le-leb, lt-leb}
use Rattle.definition.specs.Answers.{refused}
use Rattle.calendar.specs.Calendar.{date, is_leap, month_length, is_date, day_number, last_day}
use Rattle.calendar.specs.Claims.{number_of}
use Rattle.calendar.specs.declared.Date.{Date}
use Rattle.calendar.proofs.Counts.{long_month, a_month}
use Rattle.calendar.proofs.Dates.{within, is_date_lem}

module _ (y m d : ℕ) where
  pub by_length : 1 ≤ d → is_date (date y m d) ≡ leb d (month_length (is_leap y) m)
  unfolding is_date
  by_length h = rw (le-leb 1 d h)

  pub no_day : d ≡ 0 → is_date (date y m d) ≡ false
  unfolding is_date
  no_day e = rw e

  pub to_28 : 1 ≤ m → m ≤ 12 → 1 ≤ d → d ≤ 28 → is_date (date y m d) ≡ true
  to_28 a b h l = is_date_lem (date y m d) h (le_trans l (long_month (is_leap y) m a b))

  -- what is no month has no days
  pub no_month : (1 ≤ m → m ≤ 12 → ⊥) → is_date (date y m d) ≡ false
  no_month n =
      cases (is_date (date y m d))
      (λ t. let b = within (date y m d) t in let p = a_month (is_leap y) m (omega (arith, b.0, b.1)) in absurd (n p.0 p.1))
      (λ t. t)

-- ---- what 24 refuses

pub no_date : (d : Date) → is_date d ≡ false → number_of d ≡ refused 24
unfolding day_number
no_date d e = rw e

pub early : (d : Date) → d.year < 2000 → number_of d ≡ refused 24
unfolding day_number
early d h = rw (lt-leb 2000 d.year h) (cases (is_date d) (λ t. rw t) (λ t. rw t))

-- however late the year is, and whatever the other numbers are
pub month_24 : (year : ℤ) (m : ℕ) (day : ℤ) → (1 ≤ m → m ≤ 12 → ⊥) → day_number year (pos m) day ≡ refused 24
unfolding day_number
month_24 (negsuc y) m day n = refl
month_24 (pos y) m (negsuc d) n = refl
month_24 (pos y) m (pos d) n = no_date (date y m d) (no_month y m d n)

pub day_24 : (year month : ℤ) → day_number year month (pos 0) ≡ refused 24
unfolding day_number
day_24 (negsuc y) month = refl
day_24 (pos y) (negsuc m) = refl
day_24 (pos y) (pos m) = no_date (date y m 0) (no_day y m 0 refl)

pub year_24 : (y : ℕ) (month day : ℤ) → y < 2000 → day_number (pos y) month day ≡ refused 24
unfolding day_number
year_24 y (negsuc m) day h = refl
year_24 y (pos m) (negsuc d) h = refl
year_24 y (pos m) (pos d) h = early (date y m d) h

-- ---- what 26 refuses, whatever the first day is

outside : (k : ℕ) → (1 ≤ k → k ≤ 12 → ⊥) → (leb 1 k && leb k 12) ≡ false
outside k n =
    cases (leb 1 k)
    (λ t. cases (leb k 12) (λ u. absurd (n (leb-true 1 k t) (leb-true k 12 u))) (λ u. rw (t, u)))
    (λ t. rw t)

pub months_26 : (first : ℤ) (k : ℕ) → (1 ≤ k → k ≤ 12 → ⊥) → last_day first (pos k) ≡ refused 26
unfolding last_day
months_26 first k n = rw (outside k n)
