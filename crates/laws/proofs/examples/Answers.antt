-- The examples are computed, and of long records told by laws.
use Rattle.laws.proofs.Premises.{needed, divided, prefixed, trays_needed}
use Rattle.laws.proofs.LongTrays.{trays_long}
use Rattle.laws.proofs.examples.Goals as goal

pub returns : goal.returns
returns c =
    (needed, divided, prefixed, trays_needed, trays_long)
