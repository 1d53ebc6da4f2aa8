-- An f32's pattern as an f64's, exactly: the least f32 is 2 ^ 925 times the least f64, a normal f32's significand gets 29 zeros at its end, and a subnormal's is
-- shifted up until its leading bit stands where an f64 has it. Assumes nothing.
use mathlib.Core.Path.{◌≡◌, refl, sym, ap, ◌∙◌}
use mathlib.Core.Logic.{◌⊎◌, inl, inr}
use mathlib.Core.Bool.{false}
use Prim.Native.Nat.{ℕ, zero, suc, ◌+◌, ◌-◌, ◌*◌, ◌/◌, ◌%◌, ◌^◌, ◌≤◌, ◌<◌}
use native.Mathlib.Nat.{le_of_lt, lt_irrefl, lt_of_lt_of_le, lt_of_le_of_lt, lt_of_not-le, mul_assoc, mod-lt, mod-eq_of_lt, div-eq_of_lt}
use native.Mathlib.Omega.{arith}
use lib.Dec.{lit≤, lit<}
use lib.Pow.{pow-add, pow_pos, pow_mono, shl_lt}
use lib.Count.{count_leading_zeros}
use borrow.Author.Tests.{ne_eqb}
use lib.Ieee.{binary32, binary64, odd, of_fields, of_bits, to_bits}
use lib.Ieee.Fits.{fits_widens}
use lib.Ieee.Bits.{of_bits-fits}
use lib.Ieee.Exact.{odd_sign}
use Rattle.single.specs.Single.{from_single}
use Rattle.single.proofs.Leading.{Topped, topped}
use Rattle.single.proofs.Packing.{rescale, value_bits}
use Rattle.single.proofs.Patterns.{Signed, inf_signed, odd_signed, nan_fields, by_fields, converted_lt, at_nan, at_number, sign_apart}

-- ---- patterns: their width and their sign
abbrev payload : ℕ → ℕ
payload c = 0x7ff8_0000_0000_0000 + c % 2 ^ 22 * 2 ^ 29

fields_signed : (x t : ℕ) → nan_fields binary32 x t ≡ false → Signed binary64 (λ s. of_fields binary32 s x t)
fields_signed = by_fields binary32 (Signed binary64) (λ q k. odd_signed binary64 24 q k 149) (inf_signed binary64)

pub double_lt : (c : ℕ) → from_single c < 2 ^ 64
unfolding from_single
double_lt = converted_lt binary32 binary64 payload (λ v. v) (λ n. omega arith) (λ n. fits_widens (of_bits binary32 n) (of_bits-fits binary32 n))

pub double_sign : (c : ℕ) → c < 2 ^ 32 → from_single c ≡ c / 2 ^ 31 * 2 ^ 63 + from_single (c % 2 ^ 31)
unfolding from_single
double_sign = sign_apart binary32 binary64 payload (λ v. v) (λ n. omega arith) fields_signed

-- ---- m * 2 ^ j times the least f32, which is q * 2 ^ k times the least f64
odd_bits : (m j q k : ℕ) → m * 2 ^ j * 2 ^ 925 ≡ q * 2 ^ k → (k ≡ 0) ⊎ (2 ^ 52 ≤ q) → q ≤ 2 ^ 53 → to_bits binary64 (odd 24 false m j 149) ≡ k * 2 ^ 52 + q
odd_bits m j q k e =
    let v = odd 24 false m j 149 in
    let same : q * 2 ^ k * 2 ^ 149 ≡ m * 2 ^ j * 2 ^ 1074 = ap (λ (a : ℕ). a * 2 ^ 149) (sym e) ∙ mul_assoc (m * 2 ^ j) (2 ^ 925) (2 ^ 149) in
    value_bits binary64 v q k (rescale v false (m * 2 ^ j) (2 ^ 149) (q * 2 ^ k) (2 ^ 1074) (pow_pos 149) same (odd_sign 24 false m j 149))

pub shifted : (m j h sh k : ℕ) → j + h ≡ sh + k → m * 2 ^ j * 2 ^ h ≡ m * 2 ^ sh * 2 ^ k
shifted m j h sh k e = simp (mul_assoc, ← pow-add, e)

-- ---- the significand c of a subnormal f32, with z zeros above it in 64 bits, shifted up
pub record Raised (c z : ℕ) : Type 0 where
  pub zeros_ge : 41 ≤ z
  pub zeros_lt : z < 64
  pub leads : 2 ^ 52 ≤ c * 2 ^ (z - 11)
  pub fits : c * 2 ^ (z - 11) < 2 ^ 53

pub raised : (c : ℕ) → 0 < c → c < 2 ^ 23 → Raised c (count_leading_zeros 64 c)
raised c c_pos c_lt = go (count_leading_zeros 64 c) (topped c c_pos (lt_of_lt_of_le c_lt (lit≤ tt)))
  where
    few : (z : ℕ) → z ≤ 40 → c * 2 ^ z < 2 ^ 63
    few z h = let l : 23 + z ≤ 63 = omega arith in lt_of_lt_of_le (shl_lt 23 z c_lt) (pow_mono l)

    go : (z : ℕ) → Topped c z → Raised c z
    go z t =
        let ge : 41 ≤ z = lt_of_not-le (λ (h : z ≤ 40). lt_irrefl (2 ^ 63) (lt_of_le_of_lt t.leads (few z h))) in
        let e : c * 2 ^ 0 * 2 ^ z ≡ c * 2 ^ (z - 11) * 2 ^ 11 = shifted c 0 z (z - 11) 11 (omega arith) in
        record { zeros_ge = ge; zeros_lt = t.zeros_lt; leads = omega arith; fits = omega arith }

-- ---- by the pattern c, without its sign
module _ (c : ℕ) (c_lt : c < 2 ^ 31) where
  number : (r : ℕ) → c ≤ 0x7f80_0000 → to_bits binary64 (of_fields binary32 false (c / 2 ^ 23) (c % 2 ^ 23)) ≡ r → from_single c ≡ r
  unfolding from_single
  number r h e = at_number binary32 binary64 payload (λ v. v) c c_lt h ∙ e

  pub from_nan : 0x7f80_0000 < c → from_single c ≡ 0x7ff8_0000_0000_0000 + c % 2 ^ 22 * 2 ^ 29
  unfolding from_single
  from_nan = at_nan binary32 binary64 payload (λ v. v) c c_lt

pub from_infinity : from_single 0x7f80_0000 ≡ 0x7ff0_0000_0000_0000
unfolding of_fields to_bits
from_infinity = number 0x7f80_0000 (lit< tt) _ (lit≤ tt) refl

normal : (x t : ℕ) → 0 < x → x < 255 → t < 2 ^ 23 → to_bits binary64 (of_fields binary32 false x t) ≡ 0x3800_0000_0000_0000 + (x * 2 ^ 23 + t) * 2 ^ 29
unfolding of_fields
normal zero t p h t_lt = absurd (omega arith)
normal (suc j) t p h t_lt =
    let m = 2 ^ 23 + t in
    rw (ne_eqb (suc j) 255 (omega arith))
    (odd_bits m j (m * 2 ^ 29) (j + 896) (shifted m j 925 29 (j + 896) (omega arith)) (inr (omega arith)) (omega arith) ∙ omega arith)

pub from_normal : (c : ℕ) → 2 ^ 23 ≤ c → c < 0x7f80_0000 → from_single c ≡ 0x3800_0000_0000_0000 + c * 2 ^ 29
from_normal c l h =
    number c (omega arith) _ (omega arith) (normal (c / 2 ^ 23) (c % 2 ^ 23) (omega arith) (omega arith) (mod-lt c (pow_pos 23)) ∙ omega arith)

-- an exponent of 0
low : (c q k : ℕ) → c < 2 ^ 23 → c * 2 ^ 0 * 2 ^ 925 ≡ q * 2 ^ k → (k ≡ 0) ⊎ (2 ^ 52 ≤ q) → q ≤ 2 ^ 53 → from_single c ≡ k * 2 ^ 52 + q
unfolding of_fields
low c q k h e lo hi = number c (omega arith) _ (omega arith) (rw (div-eq_of_lt h, mod-eq_of_lt h) (odd_bits c 0 q k e lo hi))

pub from_zero : from_single 0 ≡ 0
from_zero = low 0 0 0 (lit< tt) refl (inl refl) (lit≤ tt)

pub from_subnormal : (c : ℕ) → 0 < c → c < 2 ^ 23 → from_single c ≡ (925 - (count_leading_zeros 64 c - 11)) * 2 ^ 52 + c * 2 ^ (count_leading_zeros 64 c - 11)
from_subnormal c c_pos c_lt = go (count_leading_zeros 64 c) (raised c c_pos c_lt)
  where
    go : (z : ℕ) → Raised c z → from_single c ≡ (925 - (z - 11)) * 2 ^ 52 + c * 2 ^ (z - 11)
    go z r = low c (c * 2 ^ (z - 11)) (925 - (z - 11)) c_lt (shifted c 0 925 (z - 11) (925 - (z - 11)) (omega arith)) (inr r.leads) (le_of_lt r.fits)
