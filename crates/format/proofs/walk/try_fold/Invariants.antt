-- The invariant: what is left of the walk decides it. The measure is the number of bytes left.
use Prim.Native.Nat.{◌-◌}
use lib.ListN.{length}
use Rattle.options.specs.Packed.{table_at}
use Rattle.format.proofs.Folding.{Left}
use Rattle.format.proofs.walk.try_fold.Given as goal

abbrev pub invariant-loop-step : goal.invariant-loop-step
invariant-loop-step g l = Left (goal.F-post g l.step) (table_at l.table.entries) l.format l.fn.from l.c.at l.s

abbrev pub decreases-loop-step : goal.decreases-loop-step
decreases-loop-step g l = length l.format - l.c.at
