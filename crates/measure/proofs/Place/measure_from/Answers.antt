-- The walk is the run of measuring, whose step each call answers as.
use Rattle.std.proofs.Common.{rules}
use Rattle.definition.specs.Measuring.{measure_op}
use Rattle.format.proofs.Folding.{folded}
use Rattle.measure.specs.Places.{state_of}
use Rattle.measure.proofs.Place.measure_from.Goals as goal

pub returns : goal.returns
returns c = folded _ state_of measure_op (λ s v r k. search rules) _ _ _ c.try_fold.ensures
