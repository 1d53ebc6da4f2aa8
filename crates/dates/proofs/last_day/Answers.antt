-- `last_day` meets its contract: the tests are the definition's, and a first day that is accepted has a date to 2179.
use Prim.Native.Nat.{◌≤◌}
use mathlib.Core.Path.{◌≡◌, sym, ap, ◌∙◌}
use native.Mathlib.Omega.{arith}
use lib.IntN.{pos}
use mir.Facts.{to_z-of_z}
use Rattle.std.specs.Prelude.{Ok}
use Rattle.laws.proofs.Exits.{exit_is}
use Rattle.definition.specs.Answers.{◌>>=◌}
use Rattle.definition.specs.Refusals.{answer_of}
use Rattle.calendar.specs.Calendar.{months_on, end_before, in_two_bytes, date_of, last_day}
use Rattle.calendar.proofs.Dates.{Valid}
use Rattle.calendar.proofs.Existence.{months_26}
use Rattle.calendar.specs.declared.Date.{Date}
use Rattle.dates.proofs.Signs.{from_bound, months_below, by_first}
use Rattle.dates.proofs.Passing.{first_valid, later}
use borrow.Author.Rules.{rules}
use Rattle.dates.proofs.last_day.Goals as goal
use Rattle.dates.proofs.last_day.Goals.{After-date_of, After-extent-k}

months : (c : After-extent-k) → (c.args.months ≡ pos c.extent-k.result) × (1 ≤ c.extent-k.result)
months c = from_bound _ 1 _ c.ranges.months (search rules) c.extent-k.ensures

-- the months are 1 to 12: what the first day decides
decided : (c : After-date_of) → last_day c.args.first c.args.months
    ≡ (answer_of c.date_of.result >>= λ d. in_two_bytes (end_before (months_on c.extent-k.result d)))
decided c =
    let m = months c.before.before in
    let q = c.date_of.ensures ∙ ap date_of (to_z-of_z c.ranges.first) in
    rw (m.0, q) (by_first _ _ m.1 (omega arith))

-- the first day's date
first : (c : After-date_of) (d : Date) → c.date_of.result ≡ Ok d → Valid d × (d.year ≤ 2179)
first c d e =
    first_valid _ _ (sym (ap date_of (to_z-of_z c.ranges.first)) ∙ sym c.date_of.ensures ∙ ap answer_of e)

pub returns-then-months-lt1 : goal.returns-then-months-lt1
returns-then-months-lt1 c =
    sym (months_below _ _ c.ranges.months c.if-months-lt1.true)

pub returns-then-k-gt12 : goal.returns-then-k-gt12
returns-then-k-gt12 c =
    rw (months (goal.at.returns-then-k-gt12 c).After-extent-k).0 (sym (months_26 _ _ (λ a b. omega (arith, c.if-k-gt12.true))))

pub months_on-requires : goal.months_on-requires
months_on-requires c =
    let v = first (goal.at.months_on-requires c).After-date_of _ c.in_ok-date.was in (v.0.from, v.0.to, v.1, omega arith)

pub end_before-requires : goal.end_before-requires
end_before-requires c =
    let v = first (goal.at.end_before-requires c).After-date_of _ c.in_ok-date.was in
    let m = months (goal.at.end_before-requires c).After-extent-k in
    rw c.months_on.ensures (later _ _ v.0 v.1 m.1 (omega arith))

pub returns-in_err-date : goal.returns-in_err-date
returns-in_err-date c =
    rw (exit_is c.from_residual.ensures.1) (sym (rw c.in_err-date.was at (decided (goal.at.returns-in_err-date c).After-date_of)))

pub returns : goal.returns
returns c =
    c.in_two_bytes.ensures ∙ ap in_two_bytes (c.end_before.ensures ∙ ap end_before c.months_on.ensures) ∙ sym (rw c.in_ok-date.was at (decided (goal.at.returns c).After-date_of))
