-- Each answer is one check of the pair that stands there.
use native.Mathlib.Omega.{arith}
use mathlib.Core.Path.{◌∙◌}
use borrow.Author.Tests.{le-leb, lt-leb}
use Rattle.range.proofs.Pairs.{Pair, pair, falls, too_long, taken}
use Rattle.range.proofs.text_extents.Goals as goal
use Rattle.range.proofs.text_extents.Goals.{After-from-greatest}

-- the pair that is read
stands : (c : After-from-greatest) → Pair c.args.pairs.now c.from-least.result c.from-greatest.result
stands c =
    pair c.args.pairs.now c.in-len4-up.len_at_least
    (c.from-least.ensures ∙ c.from_be_bytes.ensures) (c.from-greatest.ensures ∙ c.from_be_bytes-2.ensures)
    (omega (arith, c.from-greatest.ensures, c.from_be_bytes-2.type_inv))

pub returns-then-greatest-least : goal.returns-then-greatest-least
returns-then-greatest-least c holds e =
    falls (stands (goal.at.returns-then-greatest-least c).After-from-greatest) _ holds (omega arith)

pub returns-then-most-greatest : goal.returns-then-most-greatest
returns-then-most-greatest c holds e =
    let s = stands (goal.at.returns-then-most-greatest c).After-from-greatest in
    too_long s _ holds (omega arith)
    (e _ s.below ∙ lt-leb _ c.args.most (omega arith))

pub returns : goal.returns
returns c holds e =
    let s = stands (goal.at.returns c).After-from-greatest in
    taken s _ holds (omega arith)
    (e _ s.below ∙ le-leb _ c.args.most (omega arith))
