-- `end_before` meets its contract: it goes from the first of the month, which is a date.
use Prim.Native.Nat.{◌<◌}
use native.Mathlib.Omega.{arith}
use Rattle.dates.proofs.Counting.{small_days}
use Rattle.dates.proofs.Passing.{first_date, to_28th, day_before, month_end_lem}
use Rattle.dates.proofs.end_before.Goals as goal
use Rattle.dates.proofs.end_before.Goals.{After-number-first}

small : (c : After-number-first) → c.number-first.result < 131072
small c = let l = c.before.requires in rw c.number-first.ensures (small_days _ _ _ (first_date _ l) l.year l.before)

pub number-first-requires : goal.number-first-requires
number-first-requires c =
    let l = c.requires in (first_date _ l, l.year, l.before)

pub overflow_add-result : goal.overflow_add-result
overflow_add-result c =
    omega (arith, small (goal.at.overflow_add-result c).After-number-first)

pub returns-then-d-le28 : goal.returns-then-d-le28
returns-then-d-le28 c =
    rw c.number-first.ensures (to_28th _ c.requires c.if-d-le28.true)

pub overflow_add-result-then-d-n : goal.overflow_add-result-then-d-n
overflow_add-result-then-d-n c =
    omega (arith, small (goal.at.overflow_add-result-then-d-n c).After-number-first)

pub overflow_add-result-else-d-n : goal.overflow_add-result-else-d-n
overflow_add-result-else-d-n c =
    omega (arith, small (goal.at.overflow_add-result-else-d-n c).After-number-first)

-- a day that the month has, and one that it lacks
pub returns-then-d-n : goal.returns-then-d-n
returns-then-d-n c =
    let l = c.month_length-n.ensures in
    rw c.number-first.ensures (day_before _ c.requires (rw l at c.if-d-n.true))

pub returns-else-d-n : goal.returns-else-d-n
returns-else-d-n c =
    let l = c.month_length-n.ensures in
    rw (c.number-first.ensures, l) (month_end_lem _ c.requires (rw l at c.if-d-n.false))
