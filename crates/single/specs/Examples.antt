-- Patterns at which a mistake in rounding or widening shows, worked out by computation. Assumes nothing.
use Rattle.std.specs.Prelude.{◌≡◌, refl, List, [], ◌∷◌, map, ℕ}
use Rattle.std.specs.Float.Ieee.{of_bits, to_bits, of_fields, odd, round, nan_bits}
use Rattle.single.specs.Single.{to_single, from_single}

-- an f64's pattern, and the f32's that it is rounded to
pub roundings : List (ℕ × ℕ)
roundings =
    -- zeros, 1.0 and an infinity
    (0x0000_0000_0000_0000, 0x0000_0000)
    ∷ (0x8000_0000_0000_0000, 0x8000_0000)
    ∷ (0x3ff0_0000_0000_0000, 0x3f80_0000)
    ∷ (0xfff0_0000_0000_0000, 0xff80_0000)
    -- halfway: to the even neighbour, below and above
    ∷ (0x3ff0_0000_1000_0000, 0x3f80_0000)
    ∷ (0x3ff0_0000_1000_0001, 0x3f80_0001)
    ∷ (0x3ff0_0000_3000_0000, 0x3f80_0002)
    -- a carry into the exponent
    ∷ (0x3fff_ffff_f000_0000, 0x4000_0000)
    -- the largest f32, and halfway to 2 ^ 128
    ∷ (0x47ef_ffff_efff_ffff, 0x7f7f_ffff)
    ∷ (0x47ef_ffff_f000_0000, 0x7f80_0000)
    -- from the largest subnormal to the least normal f32
    ∷ (0x380f_ffff_dfff_ffff, 0x007f_ffff)
    ∷ (0x380f_ffff_e000_0000, 0x0080_0000)
    -- half the least f32, and a little more
    ∷ (0x3690_0000_0000_0000, 0x0000_0000)
    ∷ (0xb690_0000_0000_0001, 0x8000_0001)
    -- NaNs: one whose top 23 fraction bits are 0, and one that was quiet
    ∷ (0x7ff0_0000_0000_0001, 0x7fc0_0000)
    ∷ (0xfffc_0000_2000_0000, 0xffe0_0001)
    ∷ []

pub roundings_right : map (λ r. to_single r.0) roundings ≡ map (λ r. r.1) roundings
unfolding roundings to_single nan_bits of_bits of_fields odd round to_bits
roundings_right = refl

-- an f32's pattern, and its f64's
pub widenings : List (ℕ × ℕ)
widenings =
    (0x8000_0000, 0x8000_0000_0000_0000)
    ∷ (0x3f80_0000, 0x3ff0_0000_0000_0000)
    ∷ (0xff80_0000, 0xfff0_0000_0000_0000)
    -- the largest f32, the least normal one, the subnormal ones next to it and to 0
    ∷ (0x7f7f_ffff, 0x47ef_ffff_e000_0000)
    ∷ (0x0080_0000, 0x3810_0000_0000_0000)
    ∷ (0x007f_ffff, 0x380f_ffff_c000_0000)
    ∷ (0x8000_0001, 0xb6a0_0000_0000_0000)
    -- NaNs: one that becomes quiet, and one that was quiet
    ∷ (0x7f80_0001, 0x7ff8_0000_2000_0000)
    ∷ (0xffff_ffff, 0xffff_ffff_e000_0000)
    ∷ []

pub widenings_right : map (λ r. from_single r.0) widenings ≡ map (λ r. r.1) widenings
unfolding widenings from_single nan_bits of_bits of_fields odd to_bits
widenings_right = refl
