-- `days_before_month` meets its contract: it is the closed form, with what February lacks taken off.
use Prim.Native.Nat.{◌%◌}
use mathlib.Core.Bool.{true, false}
use native.Mathlib.Omega.{arith}
use borrow.Author.Tests.{eq-eqb, ne_eqb}
use Rattle.dates.proofs.Closed.{to_february, from_march}
use Rattle.dates.proofs.days_before_month.Goals as goal

pub returns-then-month-lt3 : goal.returns-then-month-lt3
returns-then-month-lt3 c =
    to_february _ _ (omega arith) c.if-month-lt3.true

pub returns-then-y-eq0 : goal.returns-then-y-eq0
returns-then-y-eq0 c =
    let e = eq-eqb (c.args.y % 4) 0 c.if-y-eq0.true in
    let m = c.args.month in
    rw e (omega (arith, from_march true m c.if-month-lt3.false (omega arith)))

pub returns-else-y-eq0 : goal.returns-else-y-eq0
returns-else-y-eq0 c =
    let e = ne_eqb (c.args.y % 4) 0 c.if-y-eq0.false in
    let m = c.args.month in
    rw e (omega (arith, from_march false m c.if-month-lt3.false (omega arith)))
