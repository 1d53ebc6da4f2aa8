-- The examples are in files of their own.
use Rattle.calendar.proofs.Rows.{examples}
use Rattle.calendar.proofs.Premises.{needed}
use Rattle.calendar.proofs.examples.Goals as goal

pub returns : goal.returns
returns c =
    (examples, needed)
