-- Bytes more leave the limit as it is.
use mathlib.Core.Path.{sym, subst}
use Rattle.laws.proofs.Ops.{Limited}
use Rattle.laws.proofs.Steps.{longer_room}
use Rattle.measure.proofs.Place.onward.Goals as goal

pub invariant_of-result : goal.invariant_of-result
invariant_of-result c = record { limited = subst Limited (longer_room _ _ _ (sym c.in_ok-state.ensures)).1 c.args.self.limited }
