-- The table is computed, and the premises are shown to be needed.
use Rattle.lengths.specs.Examples.{examples}
use Rattle.lengths.proofs.Premises.{needed}
use Rattle.lengths.proofs.examples.Goals as goal

pub returns : goal.returns
returns c =
    (examples, needed)
