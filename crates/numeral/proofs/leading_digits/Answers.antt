-- The digits end at the first byte that is none.
use Rattle.std.proofs.Common.{◌≡◌, ℕ, ◌∙◌, sym, rules}
use Rattle.std.proofs.lemmas.Iterator.{IsFirst-from_position, YieldsList-from_slice}
use mathlib.Core.Bool.{Bool, not, true, false}
use Rattle.definition.specs.Items.{is_digit}
use Rattle.numeral.proofs.Digits.{first_or_end, digits_end}
use Rattle.numeral.proofs.leading_digits.Goals as goal

pub returns : goal.returns
returns c =
    let s = c.args.text.now in
    let other : ℕ → Bool = λ b. not (is_digit b) in
    let is_first = IsFirst-from_position _ _ c.position.result (λ b. true ≡ other b) (λ b. false ≡ other b) c.position.ensures.ran (YieldsList-from_slice s c.iter.ensures.rest) (λ x q k. search rules) (λ x q k. search rules) in
    c.unwrap_or.ensures ∙ sym (digits_end s ∙ first_or_end other s c.position.result is_first)
