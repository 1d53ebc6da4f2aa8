-- The field's bytes with the greatest text are no fewer than with the least.
use mathlib.Core.Path.{refl}
use Rattle.definition.specs.States.{natural}
use Rattle.range.specs.Places.{with_length}
use Rattle.range.proofs.Moves.{zeros_order, bytes_order}
use Rattle.range.proofs.Place.field.Goals as goal

pub onward-requires : goal.onward-requires
onward-requires c =
    let p = c.args.self in
    zeros_order (with_length p.greatest p.least) p.greatest (natural c.args.f.field) _ (rw c.natural.ensures at c.in_ok-zeros.ensures) refl p.ordered
    _ _ (bytes_order c.args.f.field p.pairs.now _ c.in_ok-bytes.ensures)
