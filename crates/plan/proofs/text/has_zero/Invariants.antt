-- What was found among the bytes passed, or stands among those left, is whether there is a zero.
use mathlib.Core.Path.{◌≡◌}
use mathlib.Core.Bool.{◌||◌}
use lib.ListN.{drop}
use Rattle.definition.specs.Fields.{has_zero}
use Rattle.plan.proofs.text.has_zero.Given as goal

abbrev pub invariant-loop-b : goal.invariant-loop-b
invariant-loop-b l = (l.found || has_zero (drop l.b-index l.text)) ≡ has_zero l.text
