-- Each setting changes its own part of the state.
use Rattle.std.proofs.Common.{◌∙◌}
use Rattle.align.proofs.set.Goals as goal

pub returns-in-Order : goal.returns-in-Order
returns-in-Order c =
    c.state.ensures ∙ rw c.in-Order.is

pub returns-in-Limit : goal.returns-in-Limit
returns-in-Limit c =
    c.state-in-Limit.ensures ∙ rw c.in-Limit.is
