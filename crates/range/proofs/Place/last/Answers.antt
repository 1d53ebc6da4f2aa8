-- The walk is the run of ranging, whose step each call answers as.
use Rattle.std.proofs.Common.{rules}
use Rattle.format.proofs.Folding.{folded}
use Rattle.lengths.specs.Lengths.{range_op}
use Rattle.range.specs.Places.{places_of}
use Rattle.range.proofs.Place.last.Goals as goal

pub returns : goal.returns
returns c = rw (← c.first.ensures) (folded _ places_of range_op (λ s v r k. search rules) _ _ _ c.try_fold.ensures)
