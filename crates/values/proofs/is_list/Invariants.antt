-- The invariant: whether the rest is accepted decides for the whole list. The measure is what is left of it.
use mathlib.Core.Path.{◌≡◌}
use lib.ListN.{length}
use Rattle.definition.specs.Lists.{values}
use Rattle.values.specs.Meaning.{is_accepted}
use Rattle.values.proofs.is_list.Given as goal

abbrev pub invariant-loop-tag : goal.invariant-loop-tag
invariant-loop-tag l = is_accepted (values l.rest) ≡ is_accepted (values l.list)

abbrev pub decreases-loop-tag : goal.decreases-loop-tag
decreases-loop-tag l = length l.rest
