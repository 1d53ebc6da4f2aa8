-- `place` meets its contract: each arm is a case of `place_of`.
use Rattle.std.proofs.Common.{arith}
use Rattle.words.proofs.place.Goals as goal

pub returns-then-big : goal.returns-then-big
returns-then-big c =
    (rw c.if-big.true, omega arith)

pub returns-else-big : goal.returns-else-big
returns-else-big c =
    (rw c.if-big.false, c.requires)
