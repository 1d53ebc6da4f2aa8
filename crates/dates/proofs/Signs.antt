-- Signed numbers: what one below a bound is refused by, and what one from the bound on is.
use Prim.Native.Nat.{ℕ, ◌≤◌}
use mathlib.Core.Path.{◌≡◌, refl}
use mathlib.Core.Bool.{true, false, true≢false}
use native.Mathlib.Omega.{arith}
use lib.IntN.{ℤ, pos, negsuc}
use lib.Signed.{lt_z}
use mir.Syntax.{w64}
use mir.Val.{SFits, to_z, of_z}
use mir.Facts.{to_z-of_z}
use borrow.Author.Tests.{ltb-true, ltb-false, le-leb}
use Rattle.definition.specs.Answers.{refused, ◌>>=◌}
use Rattle.definition.specs.Bytes.{extent}
use Rattle.calendar.specs.Calendar.{months_on, end_before, in_two_bytes, day_number, date_of, last_day}
use Rattle.calendar.proofs.Existence.{month_24, day_24, year_24, months_26}

-- x is below k, as the code tests it
abbrev pub below : ℤ → ℕ → Type 0
below x k = lt_z (to_z w64 (of_z w64 x)) (pos k) ≡ true

-- x is k or above, and r is what `extent` gives of it
pub from_bound : (x : ℤ) (k r : ℕ) → SFits w64 x → lt_z (to_z w64 (of_z w64 x)) (pos k) ≡ false → r ≡ extent (to_z w64 (of_z w64 x)) → (x ≡ pos r) × (k ≤ r)
from_bound (pos n) k r f t e =
    let q : r ≡ n = rw (to_z-of_z f) at e in
    rw q (refl, ltb-false n k (rw (to_z-of_z f) at t))
from_bound (negsuc n) k r f t e = absurd (true≢false (rw (to_z-of_z f) at t))

-- ---- what is below its bound

pub year_below : (year month day : ℤ) → SFits w64 year → below year 2000 → day_number year month day ≡ refused 24
unfolding day_number
year_below (negsuc y) month day f t = refl
year_below (pos y) month day f t = year_24 y month day (ltb-true y 2000 (rw (to_z-of_z f) at t))

pub month_below : (year month day : ℤ) → SFits w64 month → below month 1 → day_number year month day ≡ refused 24
unfolding day_number
month_below (negsuc y) (negsuc m) day f t = refl
month_below (pos y) (negsuc m) day f t = refl
month_below year (pos m) day f t = month_24 year m day (λ a b. omega (arith, ltb-true m 1 (rw (to_z-of_z f) at t)))

pub day_below : (year month day : ℤ) → SFits w64 day → below day 1 → day_number year month day ≡ refused 24
unfolding day_number
day_below (negsuc y) month (negsuc d) f t = refl
day_below (pos y) (negsuc m) (negsuc d) f t = refl
day_below (pos y) (pos m) (negsuc d) f t = refl
day_below year month (pos d) f t = let q : d ≡ 0 = omega (arith, ltb-true d 1 (rw (to_z-of_z f) at t)) in rw q (day_24 year month)

pub number_below : (day : ℤ) → SFits w64 day → below day 0 → date_of day ≡ refused 24
unfolding date_of
number_below (pos n) f t = absurd (omega (arith, ltb-true n 0 (rw (to_z-of_z f) at t)))
number_below (negsuc n) f t = refl

pub months_below : (first months : ℤ) → SFits w64 months → below months 1 → last_day first months ≡ refused 26
unfolding last_day
months_below first (negsuc k) f t = refl
months_below first (pos k) f t = months_26 first k (λ a b. omega (arith, ltb-true k 1 (rw (to_z-of_z f) at t)))

-- ---- a pass of 1 to 12 months

pub by_first : (first : ℤ) (k : ℕ) → 1 ≤ k → k ≤ 12 → last_day first (pos k) ≡ (date_of first >>= λ d. in_two_bytes (end_before (months_on k d)))
unfolding last_day
by_first first k a b = rw (le-leb 1 k a, le-leb k 12 b)
