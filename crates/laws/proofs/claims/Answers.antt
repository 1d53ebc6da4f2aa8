-- Each claim has a proof of its own.
use Rattle.laws.proofs.Demand.{demand}
use Rattle.laws.proofs.Continuing.{continuing}
use Rattle.laws.proofs.Calls.{returned, rooms}
use Rattle.laws.proofs.Numbered.{numbered}
use Rattle.laws.proofs.Bound.{bounded}
use Rattle.laws.proofs.Program.{decimals}
use Rattle.laws.proofs.Fills.{fills}
use Rattle.laws.proofs.Trays.{trays}
use Rattle.laws.proofs.claims.Goals as goal

pub returns : goal.returns
returns c =
    (demand, continuing, returned, rooms, numbered, bounded, decimals, fills, trays)
