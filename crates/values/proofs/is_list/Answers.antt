-- `is_list` meets its contract: each field decides for the list behind it.
use Rattle.std.proofs.Common.{◌≡◌, ◌&&◌, sym, ap, ◌∙◌}
use Rattle.definition.specs.Lists.{values}
use Rattle.values.specs.Meaning.{is_accepted}
use Rattle.values.proofs.Contents.{accepted_first, end_accepted}
use Rattle.values.proofs.is_list.Goals as goal
use Rattle.values.proofs.is_list.Goals.{After-length_suits}

decided : (c : After-length_suits) → (c.length_suits.result && is_accepted (values c.in-Some.behind.now)) ≡ is_accepted (values c.args.list.now)
decided c =
    let i = c.in-Some in
    ap (λ b. b && is_accepted (values i.behind.now)) c.length_suits.ensures ∙ sym (accepted_first c.loop-tag.rest.now i.tag i.content.now i.behind.now i.ensures) ∙ c.loop-tag.invariant

pub loop-tag-preserved : goal.loop-tag-preserved
loop-tag-preserved c = rw c.if-not-length_suits.false at (decided (goal.at.loop-tag-preserved c).After-length_suits)

pub returns-then-not-length_suits : goal.returns-then-not-length_suits
returns-then-not-length_suits c = rw c.if-not-length_suits.true at (decided (goal.at.returns-then-not-length_suits c).After-length_suits)

pub returns : goal.returns
returns c = c.is_empty.ensures ∙ end_accepted c.loop-tag.rest.now c.in_default.ensures ∙ c.loop-tag.invariant
