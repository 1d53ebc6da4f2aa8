-- The invariant: the records so far, and what the rest of the run makes of them. The measure is what is left of the run.
use mathlib.Core.Path.{◌≡◌}
use lib.ListN.{length}
use Rattle.tray.proofs.Walking.{Checking}
use Rattle.tray.proofs.Packing.check_tray.Given as goal

abbrev pub invariant-loop-list : goal.invariant-loop-list
invariant-loop-list l = Checking l.self.state l.self.format.now l.run l.left l.place l.total × (l.out ≡ l.initial.out)

abbrev pub decreases-loop-list : goal.decreases-loop-list
decreases-loop-list l = length l.left
