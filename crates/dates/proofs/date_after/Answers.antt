-- `date_after` meets its contract: dividing finds the year that the count lies in.
use Rattle.dates.proofs.Dividing.{CountOf, count_of, YearFound, year_found, date_found}
use Rattle.dates.proofs.date_after.Goals as goal
use Rattle.dates.proofs.date_after.Goals.{After-count-j}

counted : (c : After-count-j) → CountOf c.before.args.n c.count-j.result
counted c = rw c.count-j.ensures (count_of _ c.before.requires)

year : (c : After-count-j) → YearFound c.count-j.result
year c = year_found _ (counted c).fit

pub overflow_sub-j : goal.overflow_sub-j
overflow_sub-j c =
    rw c.days_before_year.ensures (year (goal.at.overflow_sub-j c).After-count-j).start

pub date_in-requires : goal.date_in-requires
date_in-requires c =
    ((year (goal.at.date_in-requires c).After-count-j).to, rw c.days_before_year.ensures (year (goal.at.date_in-requires c).After-count-j).end)

pub returns : goal.returns
returns c =
    date_found _ _ _ (counted (goal.at.returns c).After-count-j) (rw c.days_before_year.ensures at c.date_in.ensures)
