-- `is_date` meets its contract: each test is one of the definition's, but that every month has 28 days.
use mathlib.Core.Path.{sym, ◌∙◌, ap}
use native.Mathlib.Omega.{arith}
use lib.Dec.{leb}
use Rattle.calendar.proofs.Existence.{by_length, no_day, no_month, to_28}
use Rattle.dates.proofs.is_date.Goals as goal

pub returns-then-d-eq0 : goal.returns-then-d-eq0
returns-then-d-eq0 c =
    sym (no_day _ _ _ c.if-d-eq0.true)

pub returns-then-d-eq0-2 : goal.returns-then-d-eq0-2
returns-then-d-eq0-2 c =
    sym (no_month _ _ _ (λ a b. omega arith))

pub returns-then-d-gt12 : goal.returns-then-d-gt12
returns-then-d-gt12 c =
    sym (no_month _ _ _ (λ a b. omega arith))

pub returns-then-d-le28 : goal.returns-then-d-le28
returns-then-d-le28 c =
    sym (to_28 _ _ _ (omega arith) (omega arith) (omega arith) c.if-d-le28.true)

pub returns : goal.returns
returns c =
    let d = c.args.d.day in
    ap (leb d) c.month_length.ensures ∙ sym (by_length _ _ d (omega arith))
