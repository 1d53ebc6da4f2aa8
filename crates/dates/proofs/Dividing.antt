-- By dividing: the month that a day of a year lies in, and the year that a count lies in, each between its first day and the next one's.
use Prim.Native.Nat.{ℕ, suc, ◌+◌, ◌*◌, ◌-◌, ◌/◌, ◌≤◌, ◌<◌}
use mathlib.Core.Path.{◌≡◌, refl, sym, ap, ◌∙◌}
use mathlib.Core.Bool.{Bool, true, false, cond}
use native.Mathlib.Omega.{arith}
use lib.Dec.{ltb}
use borrow.Table.Steps.{cases}
use borrow.Author.Tests.{ltb-true, ltb-false, le-ltb}
use Rattle.calendar.specs.Calendar.{date, days_before_month, is_date, date_after}
use Rattle.calendar.specs.declared.Date.{Date}
use Rattle.calendar.proofs.Counts.{month_on_lem}
use Rattle.calendar.proofs.Dates.{valid, only_date}
use Rattle.dates.specs.Fourth.{fourth, days_before_fourth, no_day, counted, widened, InYear}
use Rattle.dates.proofs.Closed.{year_is, years_are, to_february, from_march}
use Rattle.dates.proofs.Counting.{counted_to, stands, exists}

-- ---- the month m of the day r, which is the day n if February has 30 days

abbrev pub month_at : ℕ → ℕ
month_at n = (12 * n + 373) / 367

abbrev pub first_at : ℕ → ℕ
first_at m = (367 * m - 362) / 12

pub record Found (leap : Bool) (r n m : ℕ) : Type 0 where
  pub from : 1 ≤ m
  pub to : m ≤ 12
  -- what February lacks behind it
  pub lack : ℕ
  pub moved : n ≡ r + lack
  pub first : first_at m ≡ days_before_month leap m + lack
  pub start : days_before_month leap m ≤ r
  pub end : r < days_before_month leap (suc m)

module _ (leap : Bool) (l r : ℕ) (e : cond {A = ℕ} leap 1 2 ≡ l) (a : 1 ≤ l) (b : l ≤ 2) where
  march : (m : ℕ) → 3 ≤ m → m ≤ 13 → first_at m ≡ days_before_month leap m + l
  march m g h = rw e at (from_march leap m g h)

  before_march : r < 61 - l → Found leap r r (month_at r)
  before_march h =
      let m = month_at r in
      let s : m < 3 = omega arith in
      let f = to_february leap m (omega arith) s in
      record {
        from = omega arith;
        to = omega arith;
        lack = 0;
        moved = omega arith;
        first = omega (arith, f);
        start = omega (arith, f);
        end = cases (ltb (suc m) 3)
            (λ t. omega (arith, to_february leap (suc m) (omega arith) (ltb-true (suc m) 3 t)))
            (λ t. let q : suc m ≡ 3 = omega (arith, ltb-false (suc m) 3 t) in rw q (omega (arith, march 3 (omega arith) (omega arith))));
      }

  from_march_on : 61 - l ≤ r → r < 367 - l → Found leap r (r + l) (month_at (r + l))
  from_march_on h k =
      let m = month_at (r + l) in
      let f = march m (omega arith) (omega arith) in
      record {
        from = omega arith;
        to = omega arith;
        lack = l;
        moved = refl;
        first = f;
        start = omega (arith, f);
        end = omega (arith, march (suc m) (omega arith) (omega arith));
      }

pub found : (leap : Bool) (r : ℕ) → r < cond leap 366 365 → Found leap r (widened leap r) (month_at (widened leap r))
found true r h =
    cases (ltb r 60)
    (λ t. rw t (before_march true 1 r refl (omega arith) (omega arith) (ltb-true r 60 t)))
    (λ t. rw t (from_march_on true 1 r refl (omega arith) (omega arith) (ltb-false r 60 t) h))
found false r h =
    cases (ltb r 59)
    (λ t. rw t (before_march false 2 r refl (omega arith) (omega arith) (ltb-true r 59 t)))
    (λ t. rw t (from_march_on false 2 r refl (omega arith) (omega arith) (ltb-false r 59 t) h))

pub in_year : (y r n : ℕ) → Found (fourth y) r n (month_at n) → InYear y r (date (2000 + y) (month_at n) (n - first_at (month_at n) + 1))
in_year y r n f =
    let m = month_at n in
    let s = month_on_lem (fourth y) m in
    record {
      year = refl;
      from = f.from;
      to = f.to;
      day = omega arith;
      within = omega (arith, f.end, s, f.first, f.moved);
      counted = omega (arith, f.start, f.first, f.moved);
    }

-- ---- the year of a count j

abbrev pub year_at : ℕ → ℕ
year_at j = 4 * j / 1461

pub record YearFound (j : ℕ) : Type 0 where
  pub to : year_at j ≤ 180
  pub start : days_before_fourth (year_at j) ≤ j
  pub end : j - days_before_fourth (year_at j) < cond (fourth (year_at j)) 366 365

pub year_found : (j : ℕ) → j ≤ 65536 → YearFound j
year_found j h =
    let y = year_at j in
    let q = years_are y (omega arith) in
    record { to = omega arith; start = omega (arith, q); end = omega (arith, q, year_is y) }

-- ---- the date of the day n

-- what it is counted as, which stands for it
pub record CountOf (n j : ℕ) : Type 0 where
  pub fit : j ≤ 65536
  pub other_day : j ≡ no_day → ⊥
  pub back : cond (ltb j no_day) j (j - 1) ≡ n

pub count_of : (n : ℕ) → n ≤ 65535 → CountOf n (counted n)
count_of n h =
    cases (ltb n no_day)
    (λ t. let l = ltb-true n no_day t in rw t (record { fit = omega arith; other_day = λ q. omega arith; back = rw t }))
    (λ t. let l = ltb-false n no_day t in rw t (record { fit = omega arith; other_day = λ q. omega arith; back = rw (le-ltb (n + 1) no_day (omega arith)) (omega arith) }))

pub date_found : (n j : ℕ) (d : Date) → CountOf n j → InYear (year_at j) (j - days_before_fourth (year_at j)) d → d ≡ date_after n
date_found n j d c i =
    let y = year_at j in
    let f = year_found j c.fit in
    let q : counted_to y d.month d.day ≡ j = omega (arith, i.counted, f.start) in
    let e : d ≡ date (2000 + y) d.month d.day = ap (λ (k : ℕ). date k d.month d.day) i.year in
    let x : is_date (date (2000 + y) d.month d.day) ≡ true = exists y d.month d.day f.to i.from i.to i.day i.within (rw q c.other_day) in
    let s = rw q at (stands y d.month d.day f.to x) in
    e ∙ sym (only_date n _ (record { is_valid = valid _ x (omega arith); counted = s.moved ∙ c.back }))
