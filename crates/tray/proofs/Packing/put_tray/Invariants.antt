-- The invariant: the records so far stand at the buffer's front, and the others fit. The measure is what is left of the run.
use lib.ListN.{length}
use Rattle.tray.proofs.Walking.{Putting}
use Rattle.tray.proofs.Packing.put_tray.Given as goal

abbrev pub invariant-loop-list : goal.invariant-loop-list
invariant-loop-list l = Putting l.self.state l.self.format.now l.run l.initial.out l.left l.end l.out

abbrev pub decreases-loop-list : goal.decreases-loop-list
decreases-loop-list l = length l.left
