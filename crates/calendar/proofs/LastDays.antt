-- Passes: the last day is the day before the same day, or the month's end; it rises with the months, since each month's end does.
use Prim.Native.Nat.{ℕ, zero, suc, ◌≤◌, ◌<◌}
use mathlib.Core.Path.{◌≡◌, sym, ap, ◌∙◌}
use mathlib.Core.Bool.{true, false}
use native.Mathlib.Nat.{le_refl}
use native.Mathlib.Omega.{arith}
use lib.Dec.{leb}
use lib.IntN.{pos}
use borrow.Table.Steps.{cases}
use borrow.Author.Tests.{leb-true, leb-false}
use Rattle.definition.specs.Answers.{refused, accepted}
use Rattle.laws.proofs.Answers.{same_number}
use Rattle.calendar.specs.Calendar.{days_before, length_at, is_date, next, date_after, months_on, month_end, end_before, date_of, last_day}
use Rattle.calendar.specs.Claims.{GreatestBelow, Ends}
use Rattle.calendar.specs.declared.Date.{Date}
use Rattle.calendar.proofs.Dates.{Valid, first_next, dated, only_date}
use Rattle.calendar.proofs.Months.{Sought, long, months_follow, end_of_date, end_of_month, ends_rise}
use Rattle.calendar.proofs.Calls.{above, too_large, date_of_lem, last_of, last_of_late, day_of_lem, Pass, pass_of}
use Rattle.calendar.proofs.Existence.{months_26}
use Rattle.calendar.proofs.Conversions.{valid_date}

-- the day k months after the day n
abbrev later : ℕ → ℕ → Date
later n k = months_on k (date_after n)

start : (n : ℕ) → Sought (date_after n)
start n = let v = (dated n).is_valid in record { year = v.year; from = v.from; to = v.to; day = v.day }

rises : (n j k : ℕ) → j < k → end_before (later n j) < end_before (later n k)
rises n j k h = ends_rise (date_after n) (start n) j k h

day_before : (n k r : ℕ) → Pass n k r → is_date (later n k) ≡ true → GreatestBelow (days_before (later n k)) r
day_before n k r p e =
    let l = end_of_date (later n k) e in
    let h = rises n 0 k p.from in
    record { below = omega (arith, l, h, p.end); greatest = λ s g. omega (arith, l, h, p.end) }

month_end_lem : (n k r : ℕ) → Pass n k r → is_date (later n k) ≡ false → (date_of (pos r) ≡ accepted (month_end (later n k))) × ((next (month_end (later n k))).day ≡ 1)
month_end_lem n k r p e =
    let d = later n k in
    let s = months_follow k (date_after n) (start n) in
    let q = end_of_month d e in
    let v : Valid (month_end d) = record { year = s.year; from = s.from; to = s.to; day = omega (arith, long d s); within = le_refl (length_at d) } in
    (date_of_lem r p.fit ∙ ap accepted (only_date r (month_end d) (record { is_valid = v; counted = sym q ∙ p.end })), first_next (month_end d) (le_refl (length_at d)))

-- a pass is refused by 25 if its first day is, or its last
stay_above : (n j k : ℕ) → j < k → k ≤ 12 → last_day (pos n) (pos j) ≡ refused 25 → last_day (pos n) (pos k) ≡ refused 25
stay_above n zero k h l e = absurd (omega (arith, same_number (sym (months_26 (pos n) 0 (λ a b. omega arith)) ∙ e)))
stay_above n (suc j) k h l e =
    cases (leb n 65535)
    (λ t.
    let y = leb-true n 65535 t in
    let f = too_large (end_before (later n (suc j))) (sym (last_of n (suc j) y (omega arith) (omega arith)) ∙ e) in
    last_of n k y (omega arith) l ∙ above (end_before (later n k)) (omega (arith, f, rises n (suc j) k h)))
    (λ t. last_of_late n k (leb-false n 65535 t) (omega arith) l)

first_day : (n k r : ℕ) → Pass n k r → n ≤ r
unfolding months_on
first_day n k r p =
    let v = dated n in
    let h : end_before (date_after n) < end_before (later n k) = rises n 0 k p.from in
    omega (arith, h, p.end, v.counted, end_of_date (date_after n) (valid_date (date_after n) v.is_valid))

pub ends : Ends
ends = record {
  same_day = λ n k r d e f t. let q = (day_of_lem n e).1 in rw (← q) (day_before n k r (pass_of n k f) (rw q t));
  no_such_day = λ n k r d e f t. let q = (day_of_lem n e).1 in rw (← q) (month_end_lem n k r (pass_of n k f) (rw q t));
  rise = λ n j k a b h e f. omega (arith, rises n j k h, (pass_of n j e).end, (pass_of n k f).end);
  stay_above = stay_above;
  first_day = λ n k r e. first_day n k r (pass_of n k e);
}
