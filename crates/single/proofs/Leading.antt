-- A number of 64 bits, shifted up until its leading bit stands first. Assumes nothing.
use mathlib.Core.Path.{◌≡◌, sym, subst}
use Prim.Native.Nat.{ℕ, suc, ◌+◌, ◌*◌, ◌^◌, ◌≤◌, ◌<◌}
use native.Mathlib.Nat.{lt_of_lt_of_le, mul-le-mul_right}
use native.Mathlib.Omega.{arith}
use lib.Pow.{pow-add, pow_mono, shl_lt}
use lib.Count.{count_leading_zeros, leading_top}

-- n with z zeros above it
pub record Topped (n z : ℕ) : Type 0 where
  pub zeros_lt : z < 64
  pub leads : 2 ^ 63 ≤ n * 2 ^ z
  pub fits : n * 2 ^ z < 2 ^ 64

pub topped : (n : ℕ) → 0 < n → n < 2 ^ 64 → Topped n (count_leading_zeros 64 n)
topped n n_pos n-lt = let l = leading_top 64 n n_pos n-lt in go (count_leading_zeros 64 n) l.0 l.1 l.2 l.3
  where
    go : (z j : ℕ) → z + suc j ≡ 64 → 2 ^ j ≤ n → n < 2 ^ suc j → Topped n z
    go z j e lo hi =
        let first : 63 ≡ j + z = omega arith in
        let past : suc j + z ≤ 64 = omega arith in
        record {
          zeros_lt = omega arith;
          leads = subst (λ (x : ℕ). 2 ^ x ≤ n * 2 ^ z) (sym first) (rw pow-add (mul-le-mul_right (2 ^ z) lo));
          fits = lt_of_lt_of_le (shl_lt (suc j) z hi) (pow_mono past);
        }
