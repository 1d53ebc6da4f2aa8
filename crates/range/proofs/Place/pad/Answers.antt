-- As many bytes behind each length keep them in order.
use native.Mathlib.Omega.{arith}
use mathlib.Core.Path.{refl}
use Rattle.range.specs.Places.{with_length}
use Rattle.range.proofs.Moves.{zeros_order}
use Rattle.range.proofs.Place.pad.Goals as goal

pub onward-requires : goal.onward-requires
onward-requires c =
    zeros_order (with_length c.args.self.greatest c.args.self.least) c.args.self.greatest c.args.natural.bytes _ c.in_ok-zeros.ensures refl c.args.self.ordered
    c.args.n c.args.n (omega arith)
