-- The invariant: the fields left, of the rest, leave what all of them leave of the whole list.
use Prim.Native.Nat.{◌-◌, ◌≤◌}
use mathlib.Core.Path.{◌≡◌}
use lib.ListN.{length}
use Rattle.definition.specs.Lists.{fields_after}
use Rattle.values.proofs.fields_after.Given as goal

abbrev pub invariant-loop : goal.invariant-loop
invariant-loop l = (length l.rest ≤ length l.list) × (fields_after (l.k - l.counter) l.rest ≡ fields_after l.k l.list)
