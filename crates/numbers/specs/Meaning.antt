-- What the code's answers say, in the definition's terms.
use Rattle.std.specs.Prelude as rust
use Rattle.std.specs.Prelude.{ℕ, from_bits}
use Rattle.std.proofs.Math.Option.{Option, none, some}
use Rattle.std.specs.Float.{binary64}
use Rattle.definition.specs.Values.{Value, integer, float, text, other, wrapped}

-- what the code finds, or nothing
abbrev pub found : {A : Type 0} → rust.Option A → Option A
found (rust.Some a) = some a
found rust.None = none

-- what T writes of a float that has no integer
abbrev pub wrapped_float : Value → Option ℕ
wrapped_float (integer z) = none
wrapped_float (float b) = some (wrapped (from_bits binary64 b))
wrapped_float (text s) = none
wrapped_float other = none
