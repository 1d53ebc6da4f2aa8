-- What reading an integer answers, and what it is by document 01: "18 doesn't fit 64 bits".
use Rattle.std.specs.Prelude.{ℕ, ℤ, Bool, List, Option, Some, None}
use Rattle.definition.specs.Answers.{Checked, refused, accepted, ◌>>=◌}
use Rattle.definition.specs.Values.{Value, integer}
use Rattle.definition.specs.Fields.{number, unsigned, signed_value}

abbrev pub unsigned_of : Option ℕ → Checked ℕ
unsigned_of (Some u) = accepted u
unsigned_of None = refused 18

abbrev pub signed_of : Option ℤ → Checked Value
signed_of (Some z) = accepted (integer z)
signed_of None = refused 18

-- the number of the first n bytes of s, as I, L and the length of s have it
abbrev pub unsigned_at : Bool → ℕ → List ℕ → Checked ℕ
unsigned_at o n s = do
  (u, h) ← number o n s
  unsigned u h

-- the value of the first n bytes of s, as i and l have it
abbrev pub signed_at : Bool → ℕ → List ℕ → Checked Value
signed_at o n s = do
  (u, h) ← number o n s
  signed_value n u h
