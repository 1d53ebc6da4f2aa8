-- `number` meets its contract: what it counts stands for the days before the date.
use Prim.Native.Nat.{◌<◌, ◌-◌, ◌+◌}
use mathlib.Core.Path.{◌≡◌, sym}
use native.Mathlib.Omega.{arith}
use borrow.Author.Tests.{lt-ltb, le-ltb}
use Rattle.calendar.specs.Calendar.{is_leap, days_before}
use Rattle.calendar.proofs.Dates.{valid}
use Rattle.dates.specs.Fourth.{no_day}
use Rattle.dates.proofs.Counting.{counted_to, Stands, year_stands, at_most_31, small}
use Rattle.dates.proofs.number.Goals as goal
use Rattle.dates.proofs.number.Goals.{After-days_before_month}

-- the count
counted : (c : After-days_before_month) → counted_to (c.args.d.year - 2000) c.args.d.month c.args.d.day
    ≡ c.days_before_year.result + c.days_before_month.result + (c.args.d.day - 1)
counted c = rw (c.days_before_year.ensures, c.days_before_month.ensures)

bounded : (c : After-days_before_month) → counted_to (c.args.d.year - 2000) c.args.d.month c.args.d.day < 131072
bounded c =
    let v = valid _ c.requires.0 c.requires.1 in
    let l = at_most_31 (is_leap c.args.d.year) c.args.d.month v.from v.to in
    small _ _ _ (omega (arith, c.requires.2)) v.to (omega (arith, l, v.within))

stands_for : (c : After-days_before_month) → Stands (c.days_before_year.result + c.days_before_month.result + (c.args.d.day - 1))
    (days_before c.args.d)
stands_for c = let p = c.requires in rw (← counted c) (year_stands _ _ _ p.0 p.1 p.2)

pub days_before_month-requires : goal.days_before_month-requires
days_before_month-requires c =
    let v = valid _ c.requires.0 c.requires.1 in (v.from, v.to)

pub overflow_add-n : goal.overflow_add-n
overflow_add-n c =
    omega (arith, counted (goal.at.overflow_add-n c).After-days_before_month, bounded (goal.at.overflow_add-n c).After-days_before_month)

pub overflow_sub-n : goal.overflow_sub-n
overflow_sub-n c =
    (valid _ c.requires.0 c.requires.1).day

pub overflow_add-n-2 : goal.overflow_add-n-2
overflow_add-n-2 c =
    omega (arith, counted (goal.at.overflow_add-n-2 c).After-days_before_month, bounded (goal.at.overflow_add-n-2 c).After-days_before_month)

pub returns-then-n-lt-NO_DAY : goal.returns-then-n-lt-NO_DAY
returns-then-n-lt-NO_DAY c =
    sym (rw (lt-ltb _ no_day c.if-n-lt-NO_DAY.true) at (stands_for (goal.at.returns-then-n-lt-NO_DAY c).After-days_before_month).moved)

pub returns-else-n-lt-NO_DAY : goal.returns-else-n-lt-NO_DAY
returns-else-n-lt-NO_DAY c =
    sym (rw (le-ltb _ no_day c.if-n-lt-NO_DAY.false) at (stands_for (goal.at.returns-else-n-lt-NO_DAY c).After-days_before_month).moved)
