-- A fraction rounds to a float of its sign; and the bits that are a NaN's.
use Rattle.std.proofs.Common.{◌≡◌, ℕ, zero, suc, ◌-◌, ◌*◌, ◌/◌, ◌^◌, Bool, true, false, cond, T, ltb, sym, refl, ◌∙◌}
use mathlib.Core.Bool.{false≢true}
use lib.Ieee.{Float, nan, inf, fin, binary64, round, is_nan, nan_bits, of_bits, size, units, odd}
use lib.Ieee.Bits.{is_true, nan_bits_is}
use lib.Ieee.Nearest.{closest}

-- x has the sign s
abbrev pub HasSign : Bool → Float → Type 0
HasSign s nan = ⊥
HasSign s (inf t) = t ≡ s
HasSign s (fin t m e) = t ≡ s

odd_sign : (d : ℕ) (s : Bool) (q k l : ℕ) → HasSign s (odd d s q k l)
unfolding odd
odd_sign d s zero k l = refl
odd_sign d s (suc q) k l = refl

units_sign : (s : Bool) (q k : ℕ) → HasSign s (units binary64 s q k)
unfolding units
units_sign s q k = go (ltb (q * 2 ^ k) (2 ^ 2098))
  where
    go : (b : Bool) → HasSign s (cond b (odd 54 s q k 1074) (inf s))
    go true = odd_sign 54 s q k 1074
    go false = refl

pub round_sign : (s : Bool) (a c : ℕ) → HasSign s (round binary64 s a c)
unfolding round
round_sign s a c = units_sign s (closest (a * 2 ^ 1074) (c * 2 ^ (size (a * 2 ^ 1074 / c) - 53))) (size (a * 2 ^ 1074 / c) - 53)

-- the bits of a NaN are a NaN's
is_nan_lem : (x : Float) → is_nan x ≡ true → x ≡ nan
unfolding is_nan
is_nan_lem nan h = refl
is_nan_lem (inf s) h = absurd (false≢true h)
is_nan_lem (fin s m e) h = absurd (false≢true h)

pub nan_of_bits : (b : ℕ) → T (nan_bits binary64 b) → of_bits binary64 b ≡ nan
nan_of_bits b h = is_nan_lem (of_bits binary64 b) (sym (nan_bits_is binary64 b) ∙ is_true (nan_bits binary64 b) h)
