-- The invariant: writing the format has come to the cursor's place and to the state. The measure is what is left of the format.
use Prim.Native.Nat.{◌-◌}
use lib.ListN.{length}
use Rattle.options.specs.Packed.{table_at}
use Rattle.front.specs.Leading.{Leads}
use Rattle.front.proofs.settings.Given as goal

abbrev pub invariant-loop-item : goal.invariant-loop-item
invariant-loop-item l = Leads (table_at l.table.entries) l.format l.c.at l.s

abbrev pub decreases-loop-item : goal.decreases-loop-item
decreases-loop-item l = length l.format - l.c.at
