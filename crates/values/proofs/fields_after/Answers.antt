-- `fields_after` meets its contract: after each field, one fewer of those left.
use Rattle.std.proofs.Common.{◌≡◌, ◌-◌, ◌+◌, suc, length, sym, ap, ◌∙◌, arith, length-drop}
use Rattle.definition.specs.Lists.{fields_after}
use Rattle.laws.proofs.Lists.{after_first}
use Rattle.values.specs.Meaning.{size_of}
use Rattle.values.proofs.Contents.{after_short}
use Rattle.values.proofs.fields_after.Goals as goal
use Rattle.values.proofs.fields_after.Goals.{After-first}

-- how many fields are left
left : (c : After-first) → c.args.k - c.loop.counter ≡ suc (c.args.k - (c.loop.counter + 1))
left c = omega arith

pub returns-in_default : goal.returns-in_default
returns-in_default c =
    let i = c.loop in
    let none_left = rw (left (goal.at.returns-in_default c).After-first) at i.invariant.1 in
    omega (arith, ap length (sym none_left ∙ after_short i.rest.now c.in_default.ensures (c.args.k - (i.counter + 1))))

pub loop-preserved : goal.loop-preserved
loop-preserved c =
    let i = c.loop in
    let f = c.in-Some.ensures in
    (omega (arith, ap length f.behind, length-drop (3 + size_of i.rest.now) i.rest.now, i.invariant.0), rw f.behind (sym (after_first (c.args.k - (i.counter + 1)) i.rest.now) ∙ rw (left (goal.at.loop-preserved c).After-first) at i.invariant.1))

pub returns : goal.returns
unfolding fields_after
returns c =
    let none_left : c.args.k - c.loop.counter ≡ 0 = omega arith in
    ap (λ s. length c.args.list.now - length s) (rw none_left at c.loop.invariant.1)
