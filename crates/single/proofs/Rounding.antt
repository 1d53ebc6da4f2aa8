-- An f64's pattern rounded to an f32's, by its exponent x and fraction t: the number is (2 ^ 52 + t) * 2 ^ (x - 1) times the least f64, and the lowest 29 bits of its
-- significand are dropped, or one more for each step that x is below 897. Assumes nothing.
use mathlib.Core.Path.{◌≡◌, refl, sym, ap, ◌∙◌, subst}
use mathlib.Core.Logic.{◌⊎◌, inl, inr, ⊎_map, ⊎_elim}
use mathlib.Core.Bool.{Bool, true, false}
use Prim.Native.Nat.{ℕ, zero, suc, ◌+◌, ◌-◌, ◌*◌, ◌/◌, ◌%◌, ◌^◌, ◌≤◌, ◌<◌}
use native.Mathlib.Nat.{lt_of_lt_of_le, le-add_right, eq-or-lt_of_le, zero-add, mul_assoc, mod-lt}
use native.Mathlib.Omega.{arith}
use lib.Dec.{T, lit≤}
use lib.Pow.{pow-add, pow_pos, pow_mono, shl_lt}
use borrow.Author.Tests.{ne_eqb}
use lib.Ieee.{Float, nan, inf, fin, binary32, binary64, up, down, odd, round, of_fields, of_bits, to_bits, fits}
use lib.Ieee.Fits.{down_pos, nan-fits, inf-fits, round-fits}
use lib.Ieee.Exact.{HasValue, odd_sign}
use lib.Ieee.Nearest.{closest}
use lib.Ieee.Scale.{round_same}
use Rattle.single.specs.Single.{narrow, to_single}
use Rattle.single.proofs.Closest.{closest_none}
use Rattle.single.proofs.Packing.{round_bits, round_over}
use Rattle.single.proofs.Patterns.{Signed, inf_signed, round_signed, nan_fields, by_fields, converted_lt, at_nan, at_number, sign_over, sign_apart}

-- ---- values
narrow_value : (v : Float) (s : Bool) (a c : ℕ) → 0 < c → HasValue v s a c → narrow v ≡ round binary32 s a c
unfolding narrow
narrow_value nan s a c c_pos h = absurd h
narrow_value (inf t) s a c c_pos h = absurd h
narrow_value (fin t m e) s a c c_pos h =
    ap (λ (b : Bool). round binary32 b (m * up e) (down e)) h.0 ∙ round_same binary32 s (m * up e) (down e) a c (down_pos e) c_pos h.1

pub narrow_odd : (d : ℕ) (s : Bool) (q k l : ℕ) → narrow (odd d s q k l) ≡ round binary32 s (q * 2 ^ k) (2 ^ l)
narrow_odd d s q k l = narrow_value (odd d s q k l) s (q * 2 ^ k) (2 ^ l) (pow_pos l) (odd_sign d s q k l)

pub narrow_fits : (v : Float) → T (fits binary32 (narrow v))
unfolding narrow
narrow_fits nan = nan-fits binary32
narrow_fits (inf s) = inf-fits binary32 s
narrow_fits (fin s m e) = round-fits binary32 s (m * up e) (down e)

narrow_signed : (x t : ℕ) → nan_fields binary64 x t ≡ false → Signed binary32 (λ s. narrow (of_fields binary64 s x t))
unfolding narrow
narrow_signed =
    by_fields binary64 (λ v. Signed binary32 (λ s. narrow (v s)))
    (λ q k. rw (narrow_odd 53 true, narrow_odd 53 false) (round_signed binary32 (q * 2 ^ k) (2 ^ 1074))) (inf_signed binary32)

-- ---- patterns: their width and their sign
abbrev payload : ℕ → ℕ
payload b = 0x7fc0_0000 + b / 2 ^ 29 % 2 ^ 22

pub single_lt : (b : ℕ) → to_single b < 2 ^ 32
unfolding to_single
single_lt = converted_lt binary64 binary32 payload narrow (λ n. omega arith) (λ n. narrow_fits (of_bits binary64 n))

pub single_negative : (a : ℕ) → a < 2 ^ 63 → to_single (2 ^ 63 + a) ≡ 2 ^ 31 + to_single a
unfolding to_single
single_negative = sign_over binary64 binary32 payload narrow (λ n. omega arith) narrow_signed

pub single_sign : (b : ℕ) → b < 2 ^ 64 → to_single b ≡ b / 2 ^ 63 * 2 ^ 31 + to_single (b % 2 ^ 63)
unfolding to_single
single_sign = sign_apart binary64 binary32 payload narrow (λ n. omega arith) narrow_signed

-- ---- m * 2 ^ j times the least f64, of whose significand m the lowest sh bits are dropped. k is the f32's exponent less one, and 0 for a subnormal f32
abbrev bits : ℕ → ℕ → ℕ
bits m j = to_bits binary32 (round binary32 false (m * 2 ^ j) (2 ^ 1074))

module _ (m j : ℕ) (m_lt : m < 2 ^ 53) where
  leaves_24 : (sh : ℕ) → 29 ≤ sh → m < 2 ^ 24 * 2 ^ sh
  leaves_24 sh l = let e : 53 ≤ 24 + sh = omega arith in rw (← pow-add 2 24 sh) (lt_of_lt_of_le m_lt (pow_mono e))

  dropped : (sh k : ℕ) → 29 ≤ sh → j + 149 + sh ≡ 1074 + k → (k ≡ 0) ⊎ ((sh ≡ 29) × (2 ^ 52 ≤ m)) → k ≤ 253 → bits m j ≡ k * 2 ^ 23 + closest m (2 ^ sh)
  dropped sh k l e lo hi =
      round_bits binary32 (m * 2 ^ j) (2 ^ 1074) m (2 ^ sh) k (pow_pos 1074) (pow_pos sh) (simp (mul_assoc, ← pow-add, e)) (leaves_24 sh l)
      (⊎_map (λ z. z) (λ h. subst (λ (x : ℕ). 2 ^ 23 * 2 ^ x ≤ m) (sym h.0) h.1) lo) (omega arith)

  -- less than half the least f32
  vanishes : (sh : ℕ) → 54 ≤ sh → j + 149 + sh ≡ 1074 → bits m j ≡ 0
  vanishes sh l e =
      dropped sh 0 (omega arith) e (inl refl) (lit≤ tt)
      ∙ zero-add (closest m (2 ^ sh)) ∙ closest_none m (2 ^ sh) (lt_of_lt_of_le (shl_lt 53 1 m_lt) (pow_mono l))

  past_largest : 2 ^ 52 ≤ m → 1150 ≤ j → bits m j ≡ 0x7f80_0000
  past_largest lo h =
      let e : j + 149 + 29 ≡ 1074 + (j - 896) = omega arith in
      round_over binary32 (m * 2 ^ j) (2 ^ 1074) m (2 ^ 29) (j - 896) (pow_pos 1074) (pow_pos 29) (simp (mul_assoc, ← pow-add, e)) (leaves_24 29 (lit≤ tt)) lo (omega arith)

-- ---- by exponent and fraction
abbrev Rounds : ℕ → ℕ → ℕ → Type 0
Rounds x t r = to_bits binary32 (narrow (of_fields binary64 false x t)) ≡ r

subnormal : (t r : ℕ) → bits t 0 ≡ r → Rounds 0 t r
unfolding of_fields
subnormal t r e = ap (to_bits binary32) (narrow_odd 53 false t 0 1074) ∙ e

normal : (j t r : ℕ) → suc j < 2047 → bits (2 ^ 52 + t) j ≡ r → Rounds (suc j) t r
unfolding of_fields
normal j t r h e = rw (ne_eqb (suc j) 2047 (omega arith)) (ap (to_bits binary32) (narrow_odd 53 false (2 ^ 52 + t) j 1074) ∙ e)

infinite : Rounds 2047 0 0x7f80_0000
unfolding of_fields narrow to_bits
infinite = refl

module _ (t : ℕ) (t_lt : t < 2 ^ 52) where
  m_lt : 2 ^ 52 + t < 2 ^ 53
  m_lt = omega arith

  at_tiny : (x : ℕ) → x < 873 → Rounds x t 0
  at_tiny zero h = subnormal t 0 (vanishes t 0 (omega arith) 925 (lit≤ tt) refl)
  at_tiny (suc j) h = normal j t 0 (omega arith) (vanishes (2 ^ 52 + t) j m_lt (925 - j) (omega arith) (omega arith))

  at_finite : (x sh k : ℕ) → 0 < x → x < 1151 → 29 ≤ sh → x + 148 + sh ≡ 1074 + k → (k ≡ 0) ⊎ (sh ≡ 29) → Rounds x t (k * 2 ^ 23 + closest (2 ^ 52 + t) (2 ^ sh))
  at_finite zero sh k p h l e lo = absurd (omega arith)
  at_finite (suc j) sh k p h l e lo =
      normal j t _ (omega arith)
      (dropped (2 ^ 52 + t) j m_lt sh k l (omega arith) (⊎_map (λ z. z) (λ z. (z, le-add_right (2 ^ 52) t)) lo) (⊎_elim (λ z. omega arith) (λ z. omega arith) lo))

  at_large : (x : ℕ) → 1151 ≤ x → x < 2047 → Rounds x t 0x7f80_0000
  at_large zero l h = absurd (omega arith)
  at_large (suc j) l h = normal j t 0x7f80_0000 h (past_largest (2 ^ 52 + t) j m_lt (le-add_right (2 ^ 52) t) (omega arith))

-- ---- by the pattern a, without its sign
module _ (a : ℕ) (a_lt : a < 2 ^ 63) where
  abbrev x : ℕ
  x = a / 2 ^ 52

  abbrev t : ℕ
  t = a % 2 ^ 52

  t_lt : t < 2 ^ 52
  t_lt = mod-lt a (pow_pos 52)

  number : (r : ℕ) → a ≤ 0x7ff0_0000_0000_0000 → Rounds x t r → to_single a ≡ r
  unfolding to_single
  number r h e = at_number binary64 binary32 payload narrow a a_lt h ∙ e

  pub to_zero : x < 873 → to_single a ≡ 0
  to_zero h = number 0 (omega arith) (at_tiny t t_lt x h)

  pub to_subnormal : 873 ≤ x → x < 897 → to_single a ≡ closest (2 ^ 52 + t) (2 ^ (29 + (897 - x)))
  to_subnormal l h =
      number _ (omega arith) (at_finite t t_lt x (29 + (897 - x)) 0 (omega arith) (omega arith) (omega arith) (omega arith) (inl refl))
      ∙ zero-add (closest (2 ^ 52 + t) (2 ^ (29 + (897 - x))))

  pub to_normal : 897 ≤ x → x < 1151 → to_single a ≡ (x - 897) * 2 ^ 23 + closest (2 ^ 52 + t) (2 ^ 29)
  to_normal l h = number _ (omega arith) (at_finite t t_lt x 29 (x - 897) (omega arith) h (lit≤ tt) (omega arith) (inr refl))

  pub to_infinity : 1151 ≤ x → a ≤ 0x7ff0_0000_0000_0000 → to_single a ≡ 0x7f80_0000
  to_infinity l h = number 0x7f80_0000 h (go (eq-or-lt_of_le top))
    where
      top : x ≤ 2047
      top = omega arith

      go : (x ≡ 2047) ⊎ (x < 2047) → Rounds x t 0x7f80_0000
      go (inl e) = let z : t ≡ 0 = omega arith in rw (e, z) infinite
      go (inr g) = at_large t t_lt x l g

  pub to_nan : 0x7ff0_0000_0000_0000 < a → to_single a ≡ 0x7fc0_0000 + a / 2 ^ 29 % 2 ^ 22
  unfolding to_single
  to_nan = at_nan binary64 binary32 payload narrow a a_lt
