-- The invariant: whether the rest is a run decides for the whole. The measure is what is left of the run.
use mathlib.Core.Path.{◌≡◌}
use lib.ListN.{length}
use Rattle.definition.specs.Trays.{lists}
use Rattle.values.specs.Meaning.{is_accepted}
use Rattle.runs.proofs.is_run.Given as goal

abbrev pub invariant-loop-entry : goal.invariant-loop-entry
invariant-loop-entry l = is_accepted (lists l.left) ≡ is_accepted (lists l.run)

abbrev pub decreases-loop-entry : goal.decreases-loop-entry
decreases-loop-entry l = length l.left
