-- T of a float, over whole numbers.
use Rattle.std.specs.Prelude.{ℕ, ◌-◌, ◌*◌, ◌/◌, ◌%◌, ◌^◌, min, Bool, cond, ◌&&◌, nat_lt, Float}
use Rattle.std.specs.Float.{nan, inf, fin}
use Rattle.std.specs.Float.Ieee.{up, down}
use Rattle.std.specs.Float.Ieee.Nearest.{closest}

-- Of the remainder r / d with the sign s. Below 0 the sum with 2^64 is rounded to an f64, whose last place there is 2048, and 2^64 itself becomes 2^64-1.
abbrev pub whole_remainder : Bool → ℕ → ℕ → ℕ
whole_remainder s r d = cond (s && nat_lt 0 r) (min (closest (2 ^ 64 * d - r) (2048 * d) * 2048) (2 ^ 64 - 1)) (r / d)

abbrev pub wrapped_whole : Float → ℕ
wrapped_whole nan = 0
wrapped_whole (inf s) = 0
wrapped_whole (fin s m e) = whole_remainder s (m * up e % (2 ^ 64 * down e)) (down e)
