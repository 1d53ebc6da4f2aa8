-- `date_in` meets its contract: dividing finds the month that the day lies in.
use Rattle.dates.specs.Fourth.{fourth}
use Rattle.dates.proofs.Dividing.{Found, month_at, found, in_year}
use Rattle.dates.proofs.date_in.Goals as goal
use Rattle.dates.proofs.date_in.Goals.{After-widen-n}

month : (c : After-widen-n) → Found (fourth c.before.args.y) c.before.args.r c.widen-n.result (month_at c.widen-n.result)
month c = rw c.widen-n.ensures (found (fourth c.before.args.y) _ c.before.requires.1)

pub returns : goal.returns
returns c =
    in_year _ _ _ (month (goal.at.returns c).After-widen-n)
