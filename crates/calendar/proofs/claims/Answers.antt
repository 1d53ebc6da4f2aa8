-- Each claim has a proof of its own.
use Rattle.calendar.proofs.Conversions.{undone, counted}
use Rattle.calendar.proofs.LastDays.{ends}
use Rattle.calendar.proofs.Numbers.{checks}
use Rattle.calendar.proofs.claims.Goals as goal

pub returns : goal.returns
returns c =
    (undone, counted, ends, checks)
