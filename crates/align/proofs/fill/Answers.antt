-- The remainder, which is below the alignment, decides.
use Rattle.std.proofs.Common.{mod-lt, arith, ne_eqb}
use Rattle.align.proofs.fill.Goals as goal

pub overflow_sub-result : goal.overflow_sub-result
overflow_sub-result c =
    omega (arith, mod-lt c.args.n c.requires)

pub returns-then-r-eq0 : goal.returns-then-r-eq0
returns-then-r-eq0 c =
    rw c.if-r-eq0.true

pub returns-else-r-eq0 : goal.returns-else-r-eq0
returns-else-r-eq0 c =
    rw (ne_eqb _ 0 c.if-r-eq0.false)
