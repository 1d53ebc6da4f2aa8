-- The lesser of a natural alignment and the limit is one of 1 to 16, and its bits tell whether it is a power of two.
use Rattle.align.proofs.Powers.{aligned, no_power}
use Rattle.align.proofs.padding.Goals as goal

pub returns-then-a-eq0 : goal.returns-then-a-eq0
returns-then-a-eq0 c =
    aligned c.args.s _ _ c.limited-a.ensures c.requires c.args.natural.positive c.if-a-eq0.true c.fill.ensures

pub returns : goal.returns
returns c =
    no_power c.args.s _ _ c.limited-a.ensures c.requires c.args.natural.positive c.if-a-eq0.false
