-- `pass` meets its contract. The invariant: the values that were read so far, whose list has the total as its length and, with `put`, stands
-- at the front of the buffer. The measure is what is left of the format.
use Prim.Native.Nat.{◌-◌}
use lib.ListN.{length}
use Rattle.options.specs.Packed.{table_at}
use Rattle.read_pass.proofs.Passing.{Passing}
use Rattle.read_pass.proofs.pass.Given as goal

abbrev pub invariant-loop-item : goal.invariant-loop-item
invariant-loop-item l = Passing (table_at l.table.entries) l.format l.start.data.now l.initial.s l.initial.list l.put l.c.at l.s l.list l.total

abbrev pub decreases-loop-item : goal.decreases-loop-item
decreases-loop-item l = length l.format - l.c.at
