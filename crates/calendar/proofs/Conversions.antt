-- The conversions: a day's date is the only one that has the day, and the next date has the next.
use Prim.Native.Nat.{ℕ, ◌+◌, ◌≤◌, ◌<◌}
use mathlib.Core.Path.{◌≡◌, refl, ap, ◌∙◌}
use mathlib.Core.Bool.{true}
use native.Mathlib.Omega.{arith}
use Rattle.definition.specs.Answers.{accepted}
use Rattle.calendar.specs.Calendar.{is_leap, days_before_year, days_before, is_date, next, date_after, in_two_bytes}
use Rattle.calendar.specs.Claims.{number_of, Undone, Counted}
use Rattle.calendar.specs.declared.Date.{Date}
use Rattle.calendar.proofs.Counts.{never_falls, years_rise, whole_year}
use Rattle.calendar.proofs.Dates.{Valid, valid, is_date_lem, since, days_are, next_is, dated, only_date}
use Rattle.calendar.proofs.Calls.{fit, above, date_of_lem, number_of_lem, number_is, given}

pub valid_date : (d : Date) → Valid d → is_date d ≡ true
valid_date d v = is_date_lem d v.day v.within

-- ---- the conversions undo each other

pub undone : Undone
undone = record {
  day = λ n h.
      let p = dated n in
      let d = date_after n in
      let v = p.is_valid in
      let q : number_of d ≡ in_two_bytes (days_before d) = number_is d (valid_date d v) v.year in
      rw (date_of_lem n h) (q ∙ ap in_two_bytes p.counted ∙ fit n h);
  date = λ year month day n e.
      let g = given year month day e in
      let p = number_of_lem g.0 g.2 in
      (g.0, g.1, date_of_lem n p.fit ∙ ap accepted (only_date n g.0 (record { is_valid = valid g.0 p.exists p.from; counted = p.is })));
}

-- ---- days counted

count_of_180 : days_before_year 180 ≡ 65744
unfolding is_leap days_before_year
count_of_180 = refl

pub late : (d : Date) → 2180 ≤ d.year → 65535 < days_before d
late d h =
    let k : days_before_year 180 ≤ days_before_year (since d) = never_falls days_before_year years_rise 180 (since d) (omega arith) in
    omega (arith, k, count_of_180, days_are d)

pub counted : Counted
counted = record {
  next_day = λ d e y.
      let p = next_is d (valid d e y) in
      (valid_date (next d) p.is_valid, p.one_more_lem);
  next_number = λ d n e h.
      let q = number_of_lem d e in
      let p = next_is d (valid d q.exists q.from) in
      let v = p.is_valid in
      let m : days_before (next d) ≡ n + 1 = p.one_more_lem ∙ ap (λ (i : ℕ). i + 1) q.is in
      number_is (next d) (valid_date (next d) v) v.year ∙ ap in_two_bytes m ∙ fit (n + 1) (omega arith);
  whole_year = λ y. whole_year (is_leap y);
  too_late = λ d e y. number_is d e (omega arith) ∙ above (days_before d) (late d y);
}
