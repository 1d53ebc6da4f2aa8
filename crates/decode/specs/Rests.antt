-- The rest of the data, in the definition's terms.
use Rattle.std.specs.Prelude.{ℕ, ◌+◌, List}
use Rattle.std.specs.Borrow.{Bor}
use Rattle.definition.specs.Answers.{Checked, accepted, ◌>>=◌}
use Rattle.definition.specs.Fields.{first}
use Rattle.definition.specs.Reading.{offset}
use Rattle.definition.specs.declared.Offset.{Offset}
use Rattle.decode.specs.Readings.{from}
use Rattle.decode.specs.declared.rest.Rest.{Rest}

-- the data, and the offset in them
abbrev pub rest_of : Rest → List ℕ × Offset
rest_of r = (r.data.now, r.at)

-- bytes, and the rest behind them
abbrev pub split_of : Bor (List ℕ) × Rest → List ℕ × (List ℕ × Offset)
split_of x = (x.0.now, rest_of x.1)

-- the next n bytes from an offset of d on, and the rest behind them
unfoldable pub split : List ℕ → Offset → ℕ → Checked (List ℕ × (List ℕ × Offset))
split d at n = first n (from d at) >>= λ b. accepted (b, (d, offset (at.0 + n)))

-- the rest behind them
unfoldable pub past : List ℕ → Offset → ℕ → Checked (List ℕ × Offset)
past d at n = first n (from d at) >>= λ b. accepted (d, offset (at.0 + n))
