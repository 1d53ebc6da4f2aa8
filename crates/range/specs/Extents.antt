-- The bytes of a field and the pairs left, in the terms of the definition.
use Rattle.std.specs.Prelude.{ℕ, ◌+◌, Bool, List, drop}
use Rattle.std.specs.Borrow.{Bor}
use Rattle.definition.specs.Answers.{Checked, accepted, ◌>>=◌}
use Rattle.lengths.specs.Lengths.{range, pair_for}
use Rattle.lengths.specs.declared.Range.{Range}

-- what the code says of them
abbrev pub left_of : Range × Bor (List ℕ) → Range × List ℕ
left_of x = (x.0, x.1.now)

-- the field of a text that has k bytes beside it
abbrev pub text_extents : (ℕ → Bool) → ℕ → List ℕ → Checked (Range × List ℕ)
text_extents holds k p = pair_for holds p >>= λ q. accepted (range (k + q.least) (k + q.greatest), drop 4 p)
