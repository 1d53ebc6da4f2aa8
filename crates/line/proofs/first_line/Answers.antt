-- The first line ends at the first line feed.
use Rattle.std.proofs.Common.{◌≡◌, rules, tests}
use Rattle.std.proofs.lemmas.Iterator.{IsFirst-from_position, YieldsList-from_slice}
use Rattle.line.proofs.Inputs.{line_at}
use Rattle.line.proofs.first_line.Goals as goal

pub returns : goal.returns
returns c =
    let s = c.args.input.now in
    let is_first = IsFirst-from_position _ _ c.position.result (λ b. b ≡ 10) (λ b. b ≡ 10 → ⊥) c.position.ensures.ran (YieldsList-from_slice s c.iter.ensures.rest) (λ x q k. search (rules, tests)) (λ x q k. search (rules, tests)) in
    rw c.unwrap_or-n.ensures (line_at s c.position.result is_first)
