-- A byte value is below 256.
use native.Mathlib.Omega.{arith}
use borrow.Author.Tests.{lt-ltb}
use Rattle.options.proofs.entry.Goals as goal

pub returns : goal.returns
returns c =
    rw (lt-ltb c.args.b 256 (omega arith))
