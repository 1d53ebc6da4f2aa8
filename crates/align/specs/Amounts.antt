-- What a sum of lengths says that is counted up to the greatest one.
use Rattle.std.specs.Prelude.{◌≡◌, ℕ, ◌^◌, min}

-- n is m, or both are above 2^63-1
abbrev pub SameTo63 : ℕ → ℕ → Type 0
SameTo63 n m = min n (2 ^ 63) ≡ min m (2 ^ 63)
