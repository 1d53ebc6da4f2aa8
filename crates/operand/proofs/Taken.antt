-- What an option takes is at most what follows it: a law of the definition.
use Prim.Native.Nat.{ℕ, ◌≤◌}
use mathlib.Core.Bool.{◌&&◌}
use mathlib.Core.List.{List, [], ◌∷◌}
use native.Mathlib.Omega.{arith}
use borrow.Table.Steps.{cases}
use lib.ListN.{length}
use Rattle.definition.specs.Options.{Table, NumeralRule, Nothing, Digits, DigitsBehindX, NextByte}
use Rattle.definition.specs.Items.{is_number, behind_x, next_byte, taken_by}
use Rattle.numeral.proofs.Digits.{digits_length}

next_length : (t : Table) (s : List ℕ) → length (next_byte t s) ≤ length s
unfolding next_byte
next_length t [] = omega arith
next_length t (b ∷ s) = cases (is_number (t b).class && behind_x (t b).rule) (λ q. rw q (omega (arith, digits_length s))) (λ q. rw q (omega arith))

pub taken_length : (t : Table) (r : NumeralRule) (s : List ℕ) → length (taken_by t r s) ≤ length s
taken_length t Nothing s = omega arith
taken_length t Digits s = digits_length s
taken_length t DigitsBehindX s = omega arith
taken_length t NextByte s = next_length t s
