-- "Kept from pack.rs, and written anew": the values, and the bodies that get a meaning there.
use Rattle.std.specs.Prelude.{ℕ, ◌-◌, ◌*◌, ◌/◌, ◌%◌, ◌^◌, ◌≤◌, ◌<◌, min, Bool, true, false, ◌&&◌, cond, List, ltb, eqb, ℤ, pos, neg_ℤ, length, Float}
use Rattle.std.proofs.Math.Option.{Option, none, some}
use Rattle.std.specs.Float.{nan, inf, fin, binary64}
use Rattle.std.specs.Float.Ieee.{up, down, of_bits, of_int, to_bits, round}
use Rattle.definition.specs.Bytes.{extent}

-- "A value is an integer, a float, a text or something else." A float is its 64 bits.
pub data Value : Type 0 where
  integer : ℤ → Value
  float : ℕ → Value
  text : List ℕ → Value
  other : Value

-- what a value list can hold
abbrev pub Held : Value → Type 0
Held (integer z) = extent z < 2 ^ 63
Held (float b) = b < 2 ^ 64
Held (text s) = length s ≤ 65535
Held other = Unit {0}

-- ---- as_integer: "an integer itself; a float equal to an integer of -2^63..2^63-1, that integer; otherwise none"

-- n with the sign s (true: negative)
abbrev pub with_sign : Bool → ℕ → ℤ
with_sign true n = neg_ℤ (pos n)
with_sign false n = pos n

-- z, where the test passes and z is one of -2^63..2^63-1
abbrev pub integer_where : Bool → ℤ → Option ℤ
integer_where whole z = cond (whole && ltb (extent z) (2 ^ 63)) (some z) none

abbrev pub integer_of : Float → Option ℤ
integer_of nan = none
integer_of (inf s) = none
integer_of (fin s m e) = integer_where (eqb (m * up e % down e) 0) (with_sign s (m * up e / down e))

abbrev pub as_integer : Value → Option ℤ
as_integer (integer z) = some z
as_integer (float b) = integer_of (of_bits binary64 b)
as_integer (text s) = none
as_integer other = none

-- as_number: "a float itself; an integer rounded to f64, nearest, ties to even; otherwise none"
abbrev pub as_number : Value → Option ℕ
as_number (integer z) = some (to_bits binary64 (of_int binary64 z))
as_number (float b) = some b
as_number (text s) = none
as_number other = none

-- as_bytes: "a text's bytes; otherwise none"
abbrev pub as_bytes : Value → Option (List ℕ)
as_bytes (integer z) = none
as_bytes (float b) = none
as_bytes (text s) = some s
as_bytes other = none

-- ---- "T with a float lacking an integer: truncated remainder by 2^64; if negative, 2^64 is added, rounded once; then cut towards zero, 2^64 becoming 2^64-1; NaN and infinities give 0."

-- n / d cut towards zero, 2^64 becoming 2^64-1
abbrev pub cut : ℕ → ℕ → ℕ
cut n d = min (n / d) (2 ^ 64 - 1)

abbrev pub cut_float : Float → ℕ
cut_float nan = 0
cut_float (inf s) = 0
cut_float (fin s m e) = cut (m * up e) (down e)

-- of the remainder r / d with the sign s
abbrev pub wrap_remainder : Bool → ℕ → ℕ → ℕ
wrap_remainder s r d = cond (s && ltb 0 r) (cut_float (round binary64 false (2 ^ 64 * d - r) d)) (cut r d)

abbrev pub wrapped : Float → ℕ
wrapped nan = 0
wrapped (inf s) = 0
wrapped (fin s m e) = wrap_remainder s (m * up e % (2 ^ 64 * down e)) (down e)
