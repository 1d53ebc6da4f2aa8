-- The walk is the run of the bound, whose step each call answers as.
use Rattle.std.proofs.Common.{rules}
use Rattle.definition.specs.Bound.{bound_op}
use Rattle.format.proofs.Folding.{folded}
use Rattle.bound.proofs.bounding.Goals as goal

pub returns : goal.returns
returns c = rw (← c.start.ensures) (folded _ (λ s. s) (bound_op c.args.data_length) (λ s v r k. search rules) _ _ _ c.try_fold.ensures)
