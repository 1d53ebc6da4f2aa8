-- `pass` meets its contract. The invariant: what was written so far, with the rest of the items, makes the whole writing, and
-- with `put` its bytes stand at the front of the buffer. The measure is what is left of the format.
use Prim.Native.Nat.{◌-◌}
use mathlib.Core.Path.{◌≡◌}
use lib.ListN.{length}
use Rattle.options.specs.Packed.{table_at}
use Rattle.write_pass.proofs.Walking.{Passing}
use Rattle.write_pass.proofs.pass.Given as goal

abbrev pub invariant-loop-item : goal.invariant-loop-item
invariant-loop-item l = Passing (table_at l.table.entries) l.format l.place l.put l.initial.out l.c.at l.p.0 l.p.1.0 l.items l.out × (length l.out ≡ length l.initial.out)

abbrev pub decreases-loop-item : goal.decreases-loop-item
decreases-loop-item l = length l.format - l.c.at
