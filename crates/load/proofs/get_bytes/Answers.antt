-- `get_bytes` meets its contract: each turn adds the next byte, shifted to its place.
use Rattle.std.proofs.Common.{arith}
use Rattle.load.proofs.Gathering.{gathered_none, gathered_more, gathered_all, gathered_fits}
use Rattle.load.proofs.get_bytes.Goals as goal

pub loop-k-init : goal.loop-k-init
loop-k-init c = gathered_none _ _

pub overflow_add-word : goal.overflow_add-word
overflow_add-word c =
    let g = gathered_more c.loop-k.invariant c.requires (omega arith) c.place.ensures.0 c.from.ensures (omega arith) in
    record { fits = gathered_fits g }

pub loop-k-preserved : goal.loop-k-preserved
loop-k-preserved c = gathered_more c.loop-k.invariant c.requires (omega arith) c.place.ensures.0 c.from.ensures (omega arith)

pub returns : goal.returns
returns c = gathered_all c.loop-k.invariant (omega (arith, c.requires))
