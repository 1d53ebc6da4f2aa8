-- The bytes before the first that is no zero change no value, and no end.
use Rattle.std.proofs.Common.{◌≡◌, ℕ, rules}
use Rattle.std.proofs.lemmas.Iterator.{IsFirst-from_position, YieldsList-from_slice}
use mathlib.Core.Bool.{Bool, not, true, false}
use lib.Dec.{eqb}
use Rattle.numeral.proofs.Digits.{first_or_end, zeros_passed}
use Rattle.numeral.proofs.skip_zeros.Goals as goal

pub returns : goal.returns
returns c =
    let s = c.args.text.now in
    let other : ℕ → Bool = λ b. not (eqb b 48) in
    let is_first = IsFirst-from_position _ _ c.position.result (λ b. true ≡ other b) (λ b. false ≡ other b) c.position.ensures.ran (YieldsList-from_slice s c.iter.ensures.rest) (λ x q k. search rules) (λ x q k. search rules) in
    let z = rw (first_or_end other s c.position.result is_first, ← c.unwrap_or.ensures) at (zeros_passed s) in
    record { same = z.0; ends = z.1 }
