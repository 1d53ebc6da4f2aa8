-- What a word says.
use Rattle.std.specs.Prelude.{ℕ, ◌^◌, ◌≡◌, Bool, true, false, cond, ltb, ℤ, Result}
use Rattle.definition.specs.Answers.{Checked, accepted, ◌>>=◌, ◌>>◌, require}
use Rattle.definition.specs.Bytes.{laid, coded}
use Rattle.definition.specs.Fields.{in_signed, in_unsigned}
use Rattle.definition.specs.Refusals.{answer_by}
use Rattle.definition.specs.declared.Refusal.{Refusal}

-- the byte above eight: the sign of the integer whose bits b are
abbrev pub fill_of : ℕ → ℕ
fill_of b = cond (ltb b (2 ^ 63)) 0 255

-- in n bytes, and in either byte order, the word has the bytes of the integer, or its refusal
abbrev pub Says : ℕ → Checked ℤ → Result ℕ Refusal → Type 0
Says n z r = (o : Bool) → answer_by (λ b. laid o n b (fill_of b)) r ≡ (z >>= λ x. accepted (coded o n x))

-- z is in the range of n bytes: the signed range (true), or the other
abbrev pub in_range : Bool → ℕ → ℤ → Bool
in_range true n z = in_signed n z
in_range false n z = in_unsigned n z

-- an integer that is inside its range, or 13
abbrev pub ranged_or : Bool → ℤ → Checked ℤ
ranged_or inside z = require inside 13 >> accepted z
