-- The bits of the float nearest to an integer: of a whole number's word, with the leading bit first, 53 bits are kept and 11 dropped.
use Rattle.std.proofs.Common.{◌≡◌, ℕ, suc, ◌+◌, ◌-◌, ◌*◌, ◌^◌, ◌<◌, true, false, ℤ, pos, negsuc, sym, refl, inr, one-mul, arith, pow_pos}
use lib.Count.{count_leading_zeros}
use lib.Ieee.{binary64, round, of_int, to_bits}
use lib.Ieee.Fits.{round-fits}
use lib.Ieee.Bits.{to_bits-lt}
use lib.Ieee.Nearest.{closest}
use Rattle.single.proofs.Leading.{Topped, topped}
use Rattle.single.proofs.Packing.{round_bits}
use Rattle.single.proofs.Patterns.{round_signed}
use Rattle.single.proofs.Widening.{shifted}

abbrev pub bits : ℤ → ℕ
bits z = to_bits binary64 (of_int binary64 z)

pub bits_lt : (z : ℤ) → bits z < 2 ^ 64
unfolding of_int
bits_lt (pos n) = to_bits-lt binary64 (round binary64 false n 1) (round-fits binary64 false n 1)
bits_lt (negsuc n) = to_bits-lt binary64 (round binary64 true (suc n) 1) (round-fits binary64 true (suc n) 1)

pub bits_zero : 0 ≡ bits (pos 0)
unfolding of_int round to_bits
bits_zero = refl

pub bits_whole : (n : ℕ) → 0 < n → n < 2 ^ 64 → (1085 - count_leading_zeros 64 n) * 2 ^ 52 + closest (n * 2 ^ count_leading_zeros 64 n) (2 ^ 11) ≡ bits (pos n)
unfolding of_int
bits_whole n n_pos n-lt = go (count_leading_zeros 64 n) (topped n n_pos n-lt)
  where
    go : (z : ℕ) → Topped n z → (1085 - z) * 2 ^ 52 + closest (n * 2 ^ z) (2 ^ 11) ≡ to_bits binary64 (round binary64 false n 1)
    go z t =
        let k = 1085 - z in
        let same : n * 2 ^ 1074 * 2 ^ 11 ≡ n * 2 ^ z * (1 * 2 ^ k) = rw (one-mul (2 ^ k)) (shifted n 1074 11 z k (omega arith)) in
        sym (round_bits binary64 n 1 (n * 2 ^ z) (2 ^ 11) k (pow_pos 0) (pow_pos 11) same t.fits (inr t.leads) (omega arith))

pub bits_negative : (n : ℕ) → 2 ^ 63 + bits (pos (suc n)) ≡ bits (negsuc n)
unfolding of_int
bits_negative n = sym (round_signed binary64 (suc n) 1)
