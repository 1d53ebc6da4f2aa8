-- T of a float, which the definition states by rounding, over whole numbers.
use Rattle.std.proofs.Common.{◌≡◌, ℕ, zero, suc, ◌+◌, ◌-◌, ◌*◌, ◌/◌, ◌%◌, ◌^◌, ◌<◌, ◌≤◌, min, Bool, true, false, cond, not, ◌&&◌, T, ltb, leb, ◌⊎◌, ℤ, pos, negsuc, sym, refl, ap, ◌∙◌}
use Rattle.std.proofs.Common.{inl, inr, le_trans, le_of_eq, lt_of_lt_of_le, lt_of_le_of_lt, le_of_lt, lt_irrefl, mul-le-mul_right, mul_assoc, mul_comm, div-lt_iff_lt-mul, mul-le-mul_left, mul-lt-mul_of_pos_right, mul-pos, lt_of_not-le, le-div_iff_mul-le, mul-one, mul_right_comm}
use Rattle.std.proofs.Common.{div-one, arith, lit<, lit≤, leb→le, pow_pos, pow_mono, pow-add, shl_lt, ltb-true}
use Prim.Native.Nat.{compare}
use native.Mathlib.Nat.{mul-sub, mod-one, mod-le}
use lib.Dec.{nleb→lt}
use lib.Ieee.{Float, nan, inf, fin, binary64, up, down, round, size, fits}
use lib.Ieee.Digits.{size-lt, size-le}
use lib.Ieee.Fits.{down_pos, nearest-le}
use lib.Ieee.Exact.{HasValue, round_exact}
use lib.Ieee.Nearest.{closest, closest_same, div_same}
use lib.Ieee.Scale.{grid, round_val}
use Rattle.single.proofs.Packing.{rescale}
use Rattle.definition.specs.Values.{cut, cut_float, wrapped}
use Rattle.laws.proofs.Answers.{both_parts}
use Rattle.numbers.specs.WholeNumbers.{wrapped_whole}
use Rattle.numbers.proofs.Digits.{whole_few, fraction_few}
use Rattle.numbers.proofs.Remainders.{left, left_lt, scaled, left_fraction}

-- ---- a remainder is at most 2^63, or a multiple of 2048
abbrev Coarse : ℕ → ℕ → Type 0
Coarse r d = (r ≤ 2 ^ 63 * d) ⊎ ((t : ℕ) × (r ≡ t * (2048 * d)))

coarse_whole : (m k : ℕ) → m < 2 ^ 53 → Coarse (m * 2 ^ k % (2 ^ 64 * 1)) 1
coarse_whole m k h = go (leb 11 k) (leb→le 11 k) (nleb→lt 11 k)
  where
    go : (b : Bool) → (T b → 11 ≤ k) → (T (not b) → k < 11) → Coarse (m * 2 ^ k % (2 ^ 64 * 1)) 1
    go true l g =
        let sub : k ≡ k - 11 + 11 = omega (arith, l tt) in
        let e : m * 2 ^ k ≡ m * 2 ^ (k - 11) * 2048 = ap (λ (x : ℕ). m * 2 ^ x) sub ∙ rw (pow-add 2 (k - 11) 11) (sym (mul_assoc m (2 ^ (k - 11)) 2048)) in
        inr (m * 2 ^ (k - 11) % 2 ^ 53, rw e (scaled (m * 2 ^ (k - 11)) (2 ^ 53) 2048 (pow_pos 53) (pow_pos 11)))
    go false l g = inl (le_trans (mod-le (m * 2 ^ k) (2 ^ 64 * 1)) (le_of_lt (lt_of_lt_of_le (shl_lt 53 k h) (pow_mono {j = 63} (omega (arith, g tt))))))

coarse : (s : Bool) (m : ℕ) (e : ℤ) → T (fits binary64 (fin s m e)) → Coarse (left m e) (down e)
coarse s m (pos k) f = coarse_whole m k (whole_few s m k f)
coarse s m (negsuc k) f =
    let h = (fraction_few s m k f).0 in
    inl (rw (left_fraction m k h) (le_trans (le_of_lt h) (le_trans (lit≤ {m = 2 ^ 53} {n = 2 ^ 63 * 1} tt) (mul-le-mul_left (2 ^ 63) (pow_pos (suc k))))))

-- ---- the sum, rounded to a multiple of 2048
module _ (r d : ℕ) (D : 0 < d) (l : r < 2 ^ 64 * d) (some_left : 0 < r) where
  abbrev N : ℕ
  N = 2 ^ 64 * d - r

  abbrev K : ℕ
  K = closest N (2048 * d)

  abbrev n : ℕ
  n = N * 2 ^ 1074

  less : (x : ℕ) → r < x → x - r < x
  less x h = omega arith

  -- from 2^63 on the sum has all digits before the point, and 11 of them are dropped
  long : 2 ^ 63 * d ≤ N → size (n / d) ≡ 1138
  long h =
      let hi : n < 2 ^ 1138 * d = lt_of_lt_of_le (mul-lt-mul_of_pos_right (less (2 ^ 64 * d) l) (pow_pos 1074)) (le_of_eq (mul_right_comm (2 ^ 64) d (2 ^ 1074))) in
      let lo : 2 ^ 1137 * d ≤ n = le_trans (le_of_eq (sym (mul_right_comm (2 ^ 63) d (2 ^ 1074)))) (mul-le-mul_right (2 ^ 1074) h) in
      let most : size (n / d) ≤ 1138 = size-le (n / d) 1138 ((div-lt_iff_lt-mul D).1 hi) in
      let least : 1137 < size (n / d) = lt_of_not-le (λ (g : size (n / d) ≤ 1137). lt_irrefl (2 ^ 1137) (lt_of_le_of_lt ((le-div_iff_mul-le D).1 lo) (lt_of_lt_of_le (size-lt (n / d)) (pow_mono g)))) in
      omega arith

  near : r ≤ 2 ^ 63 * d → HasValue (round binary64 false N d) false (K * 2048) 1
  near g =
      let h : 2 ^ 63 * d ≤ N = omega arith in
      let drops : size (n / d) - 53 ≡ 1085 = ap (λ (x : ℕ). x - 53) (long h) in
      let kept : closest n (d * 2 ^ 1085) ≡ K = closest_same n (d * 2 ^ 1085) N (2048 * d) (mul-pos D (pow_pos 1085)) (mul-pos (pow_pos 11) D) (mul_assoc N (2 ^ 1074) (2048 * d) ∙ ap (λ (x : ℕ). N * x) (sym (mul_assoc (2 ^ 1074) 2048 d) ∙ mul_comm (2 ^ 1085) d)) in
      let is : grid binary64 N d ≡ K * 2 ^ 1085 = ap (λ (k : ℕ). closest n (d * 2 ^ k) * 2 ^ k) drops ∙ ap (λ (q : ℕ). q * 2 ^ 1085) kept in
      let most : K ≤ 2 ^ 53 = le_trans (nearest-le (N / (2048 * d)) (compare (N % (2048 * d) * 2) (2048 * d))) ((div-lt_iff_lt-mul (mul-pos (pow_pos 11) D)).1 (lt_of_lt_of_le (less (2 ^ 64 * d) l) (le_of_eq (mul_assoc (2 ^ 53) 2048 d)))) in
      let fits-it : grid binary64 N d < 2 ^ 2098 = rw is (lt_of_le_of_lt (mul-le-mul_right (2 ^ 1085) most) (lit< tt)) in
      rescale (round binary64 false N d) false (grid binary64 N d) (2 ^ 1074) (K * 2048) 1 (pow_pos 1074) (mul_assoc K 2048 (2 ^ 1074) ∙ sym (mul-one (grid binary64 N d) ∙ is)) (round_val binary64 N d fits-it)

  exact : (t : ℕ) → r ≡ t * (2048 * d) → HasValue (round binary64 false N d) false (K * 2048) 1
  exact t e =
      let c = 2 ^ 53 - t in
      let is : N ≡ c * (2048 * d) = ap (λ (x : ℕ). 2 ^ 64 * d - x) e ∙ ap (λ (x : ℕ). x - t * (2048 * d)) (mul_assoc (2 ^ 53) 2048 d) ∙ flip (2 ^ 53) t (2048 * d) in
      let K-is : K ≡ c = ap (λ (x : ℕ). closest x (2048 * d)) is ∙ whole c (2048 * d) (mul-pos (pow_pos 11) D) in
      let less : c < 2 ^ 53 = below_it t (first t (2048 * d) (rw e at some_left)) in
      rescale (round binary64 false N d) false N d (K * 2048) 1 D
      (ap (λ (x : ℕ). x * 2048 * d) K-is ∙ mul_assoc c 2048 d ∙ sym is ∙ sym (mul-one N))
      (round_exact binary64 false N d c 1085 D less (lt_of_lt_of_le (shl_lt 53 1085 less) (lit≤ tt))
      (ap (λ (x : ℕ). x * 2 ^ 1074) is ∙ mul_assoc c (2048 * d) (2 ^ 1074) ∙ ap (λ (x : ℕ). c * x) (mul_right_comm 2048 d (2 ^ 1074)) ∙ sym (mul_assoc c (2 ^ 1085) d)))
    where
      flip : (a t u : ℕ) → a * u - t * u ≡ (a - t) * u
      flip a t u = rw (mul_comm a u, mul_comm t u, ← mul-sub u a t) (mul_comm u (a - t))

      whole : (c u : ℕ) → 0 < u → closest (c * u) u ≡ c
      whole c u U = closest_same (c * u) u c 1 U (pow_pos 0) (mul-one (c * u)) ∙ rw (div-one c, mod-one c)

      first : (t u : ℕ) → 0 < t * u → 0 < t
      first zero u h = absurd (omega arith)
      first (suc t) u h = omega arith

      below_it : (t : ℕ) → 0 < t → 9007199254740992 - t < 9007199254740992
      below_it t h = omega arith

  sum_value : Coarse r d → HasValue (round binary64 false N d) false (K * 2048) 1
  sum_value (inl g) = near g
  sum_value (inr g) = exact g.0 g.1

cut_value : (y : Float) (a : ℕ) → HasValue y false a 1 → cut_float y ≡ min a (2 ^ 64 - 1)
cut_value nan a v = absurd v
cut_value (inf t) a v = absurd v
cut_value (fin t m e) a v = rw (div_same (m * up e) (down e) a 1 (down_pos e) (pow_pos 0) v.1, div-one a)

pub wrapped_in_whole_numbers : (x : Float) → T (fits binary64 x) → wrapped x ≡ wrapped_whole x
wrapped_in_whole_numbers nan f = refl
wrapped_in_whole_numbers (inf s) f = refl
wrapped_in_whole_numbers (fin s m e) f = go (s && ltb 0 (left m e)) refl
  where
    go : (t : Bool) → (s && ltb 0 (left m e)) ≡ t
        → cond t (cut_float (round binary64 false (2 ^ 64 * down e - left m e) (down e))) (cut (left m e) (down e))
        ≡ cond t (min (closest (2 ^ 64 * down e - left m e) (2048 * down e) * 2048) (2 ^ 64 - 1)) (left m e / down e)
    go true h = cut_value (round binary64 false (2 ^ 64 * down e - left m e) (down e)) (closest (2 ^ 64 * down e - left m e) (2048 * down e) * 2048) (sum_value (left m e) (down e) (down_pos e) (left_lt m e) (ltb-true 0 (left m e) (both_parts s (ltb 0 (left m e)) h).1) (coarse s m e f))
    go false h = let small : left m e / down e < 2 ^ 64 = (div-lt_iff_lt-mul (down_pos e)).1 (left_lt m e) in omega arith
