-- The calls: what they give where no check fails, and what an accepted one went through.
use Prim.Native.Nat.{ℕ, ◌≤◌, ◌<◌}
use mathlib.Core.Path.{◌≡◌, refl, sym, ◌∙◌}
use mathlib.Core.Bool.{true, ◌&&◌}
use lib.Dec.{leb}
use lib.IntN.{ℤ, pos, negsuc}
use borrow.Table.Steps.{cases}
use borrow.Author.Tests.{leb-true, leb-false, le-leb, lt-leb}
use Rattle.definition.specs.Answers.{Checked, refused, accepted, ◌>>◌}
use Rattle.laws.proofs.Answers.{never, same, both_parts, bound, passed}
use Rattle.calendar.specs.Calendar.{date, days_before, is_date, date_after, months_on, end_before, in_two_bytes, period, day_number, date_of, last_day}
use Rattle.calendar.specs.Claims.{number_of, Given}
use Rattle.calendar.specs.declared.Date.{Date}

-- ---- what they give

pub fit : (n : ℕ) → n ≤ 65535 → in_two_bytes n ≡ accepted n
fit n h = rw (le-leb n 65535 h)

pub above : (n : ℕ) → 65535 < n → in_two_bytes n ≡ refused 25
above n h = rw (lt-leb n 65535 h)

pub too_large : (n : ℕ) → in_two_bytes n ≡ refused 25 → 65535 < n
too_large n e =
    cases (leb n 65535)
    (λ t. absurd (never (sym e ∙ fit n (leb-true n 65535 t))))
    (λ t. leb-false n 65535 t)

pub date_of_lem : (n : ℕ) → n ≤ 65535 → date_of (pos n) ≡ accepted (date_after n)
unfolding date_of
date_of_lem n h = rw (le-leb n 65535 h)

pub date_of_late : (n : ℕ) → 65535 < n → date_of (pos n) ≡ refused 25
unfolding date_of
date_of_late n h = rw (above n h)

pub last_of : (n k : ℕ) → n ≤ 65535 → 1 ≤ k → k ≤ 12 → last_day (pos n) (pos k) ≡ in_two_bytes (end_before (months_on k (date_after n)))
unfolding last_day
last_of n k h a b = rw (date_of_lem n h, le-leb 1 k a, le-leb k 12 b)

pub last_of_late : (n k : ℕ) → 65535 < n → 1 ≤ k → k ≤ 12 → last_day (pos n) (pos k) ≡ refused 25
unfolding last_day
last_of_late n k h a b = rw (le-leb 1 k a, le-leb k 12 b, date_of_late n h)

pub number_is : (d : Date) → is_date d ≡ true → 2000 ≤ d.year → number_of d ≡ in_two_bytes (days_before d)
unfolding day_number
number_is d e y = rw (e, le-leb 2000 d.year y)

-- ---- what they went through

-- an answer that an accepted one goes on from, and what comes after it
followed : {A B : Type 0} (c : Checked A) (d : Checked B) {b : B} → (c >> d) ≡ accepted b → (a : A) × (c ≡ accepted a) × (d ≡ accepted b)
followed (refused k) d e = absurd (never e)
followed (accepted a) d e = (a, refl, e)

pub fits : (n : ℕ) {m : ℕ} → in_two_bytes n ≡ accepted m → (n ≤ 65535) × (n ≡ m)
fits n e = let p = passed (leb n 65535) 25 (accepted n) e in (leb-true n 65535 p.0, same p.1)

in_period : (m : ℕ) {k : ℕ} → period (pos m) ≡ accepted k → (1 ≤ m) × (m ≤ 12) × (m ≡ k)
in_period m e =
    let p = passed (leb 1 m && leb m 12) 26 (accepted m) e in
    let b = both_parts (leb 1 m) (leb m 12) p.0 in
    (leb-true 1 m b.0, leb-true m 12 b.1, same p.1)

-- a day
pub day_of_lem : (n : ℕ) {d : Date} → date_of (pos n) ≡ accepted d → (n ≤ 65535) × (date_after n ≡ d)
unfolding date_of
day_of_lem n e = let p = followed (in_two_bytes n) (accepted (date_after n)) e in ((fits n p.1).0, same p.2)

-- a pass of k months from the day n on
pub record Pass (n k r : ℕ) : Type 0 where
  pub day : n ≤ 65535
  pub from : 1 ≤ k
  pub to : k ≤ 12
  pub end : end_before (months_on k (date_after n)) ≡ r
  pub fit : r ≤ 65535

pub pass_of : (n k : ℕ) {r : ℕ} → last_day (pos n) (pos k) ≡ accepted r → Pass n k r
unfolding last_day
pass_of n k e =
    let b = bound (period (pos k)) _ e in
    let y = in_period k b.is in
    let c = bound (date_of (pos n)) (λ d. in_two_bytes (end_before (months_on b.val d))) b.rest in
    let d = day_of_lem n c.is in
    let f = fits (end_before (months_on b.val c.val)) c.rest in
    record { day = d.0; from = y.0; to = y.1; end = rw (y.2, d.1) f.1; fit = rw (← f.1) f.0 }

-- a date
pub record Numbered (d : Date) (n : ℕ) : Type 0 where
  pub exists : is_date d ≡ true
  pub from : 2000 ≤ d.year
  pub is : days_before d ≡ n
  pub fit : n ≤ 65535

pub number_of_lem : (d : Date) {n : ℕ} → number_of d ≡ accepted n → Numbered d n
unfolding day_number
number_of_lem d e =
    let p = passed (is_date d && leb 2000 d.year) 24 (in_two_bytes (days_before d)) e in
    let b = both_parts (is_date d) (leb 2000 d.year) p.0 in
    let f = fits (days_before d) p.1 in
    record { exists = b.0; from = leb-true 2000 d.year b.1; is = f.1; fit = rw (← f.1) f.0 }

-- which was given as three numbers, none of them below 0
pub given : (year month day : ℤ) {n : ℕ} → day_number year month day ≡ accepted n → (d : Date) × Given year month day d × (number_of d ≡ accepted n)
unfolding day_number
given (negsuc y) month day e = absurd (never e)
given (pos y) (negsuc m) day e = absurd (never e)
given (pos y) (pos m) (negsuc d) e = absurd (never e)
given (pos y) (pos m) (pos d) e = (date y m d, record { years = refl; months = refl; days = refl }, e)
