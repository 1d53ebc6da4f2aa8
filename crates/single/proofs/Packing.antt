-- What a format writes for q * 2 ^ k times its least value: k times the exponent's unit, plus q. The leading bit of q adds one to the exponent, a carry in rounding
-- adds one more, and past the last exponent stands an infinity. Assumes nothing.
use mathlib.Core.Path.{◌≡◌, sym, ap, ◌∙◌}
use mathlib.Core.Logic.{◌⊎◌, inl, inr, ⊎_map}
use mathlib.Core.Bool.{Bool, false, cond}
use Prim.Native.Nat.{ℕ, suc, ◌+◌, ◌-◌, ◌*◌, ◌/◌, ◌%◌, ◌^◌, ◌≤◌, ◌<◌, compare}
use native.Mathlib.Nat.{le_refl, le_trans, lt_of_lt_of_le, lt_of_not-le, not-le_of_lt, eq-or-lt_of_le, zero-add, add_assoc, add-mul}
use native.Mathlib.Nat.{mul_assoc, mul_comm, mul_right_comm, mul-pos, mul-le-mul_right, eq_of_mul-eq-mul_right, mul-div_cancel, div-div-eq-div-mul, div-lt_iff_lt-mul, le-div_iff_mul-le, suc-mul, pow-succ'}
use native.Mathlib.Omega.{arith}
use lib.Dec.{ltb}
use lib.Arith.{le→nltb}
use lib.Pow.{pow-add, pow_pos, pow_mono, pow-lt, shl_lt}
use lib.Ieee.{Float, nan, inf, fin, Format, prec, emax, low, hid, ones, top, up, down, size, odd, units, round, to_bits}
use lib.Ieee.Digits.{size-lt, size-le}
use lib.Ieee.Fits.{two, nearest-le, round_is, down_pos}
use lib.Ieee.Bits.{cond_no}
use lib.Ieee.Exact.{HasValue, units_val}
use lib.Ieee.Nearest.{closest, closest_same, div_same, nearest-ge}

-- ---- exponent and significand, of which a format keeps p bits

-- what `to_bits` writes for n times the least value
abbrev written : ℕ → ℕ → ℕ
written p n = (size n - p) * 2 ^ (p - 1) + n / 2 ^ (size n - p)

size_gt : (n z : ℕ) → 2 ^ z ≤ n → z < size n
size_gt n z h = lt_of_not-le (λ (g : size n ≤ z). not-le_of_lt (lt_of_lt_of_le (size-lt n) (pow_mono g)) h)

module _ (p : ℕ) (p-ge : 2 ≤ p) where
  twice : 2 ^ p ≡ 2 * 2 ^ (p - 1)
  twice = let e : p ≡ suc (p - 1) = omega arith in ap (λ (x : ℕ). 2 ^ x) e ∙ pow-succ' 2 (p - 1)

  drops : (n k : ℕ) → (k ≡ 0) ⊎ (2 ^ (p - 1 + k) ≤ n) → n < 2 ^ (p + k) → size n - p ≡ k
  drops n k lo hi = go lo (size-le n (p + k) hi)
    where
      go : (k ≡ 0) ⊎ (2 ^ (p - 1 + k) ≤ n) → size n ≤ p + k → size n - p ≡ k
      go (inl e) h = omega arith
      go (inr g) h = omega (arith, size_gt n (p - 1 + k) g)

  written_kept : (k q : ℕ) → (k ≡ 0) ⊎ (2 ^ (p - 1) ≤ q) → q < 2 ^ p → written p (q * 2 ^ k) ≡ k * 2 ^ (p - 1) + q
  written_kept k q lo hi =
      let e = drops (q * 2 ^ k) k (⊎_map (λ z. z) (λ g. rw pow-add (mul-le-mul_right (2 ^ k) g)) lo) (shl_lt p k hi) in
      ap (λ (j : ℕ). j * 2 ^ (p - 1) + q * 2 ^ k / 2 ^ j) e ∙ ap (λ (n : ℕ). k * 2 ^ (p - 1) + n) (mul-div_cancel q (pow_pos k))

  -- 2 ^ p is 2 ^ (p - 1), the least with all bits, at the next exponent
  written_carried : (k : ℕ) → written p (2 ^ p * 2 ^ k) ≡ k * 2 ^ (p - 1) + 2 ^ p
  written_carried k =
      let h = 2 ^ (p - 1) in
      let next : 2 * h * 2 ^ k ≡ h * 2 ^ suc k = simp (pow-succ', mul_assoc, mul_comm) in
      let less : p - 1 < p = omega arith in
      rw twice (ap (written p) next ∙ written_kept (suc k) h (inr (le_refl h)) (pow-lt less) ∙ ap (λ (x : ℕ). x + h) (suc-mul k h) ∙ omega arith)

  written_is : (k q : ℕ) → (k ≡ 0) ⊎ (2 ^ (p - 1) ≤ q) → q ≤ 2 ^ p → written p (q * 2 ^ k) ≡ k * 2 ^ (p - 1) + q
  written_is k q lo hi = go (eq-or-lt_of_le hi)
    where
      go : (q ≡ 2 ^ p) ⊎ (q < 2 ^ p) → written p (q * 2 ^ k) ≡ k * 2 ^ (p - 1) + q
      go (inl e) = rw e (written_carried k)
      go (inr l) = written_kept k q lo l

-- ---- values

-- from one fraction to another of the same size
pub rescale : (x : Float) (s : Bool) (w l a c : ℕ) → 0 < l → a * l ≡ w * c → HasValue x s w l → HasValue x s a c
rescale nan s w l a c p h v = v
rescale (inf t) s w l a c p h v = v
rescale (fin t m e) s w l a c p h v = (
  v.0,
  eq_of_mul-eq-mul_right l p (m * up e * c) (a * down e)
      (mul_right_comm (m * up e) c l ∙ ap (λ (x : ℕ). x * c) v.1 ∙ mul_right_comm w (down e) c ∙ ap (λ (x : ℕ). x * down e) (sym h) ∙ mul_right_comm a l (down e)),
)

pub bits_of : (f : Format) (x : Float) (s : Bool) (a : ℕ) → HasValue x s a (2 ^ low f) → to_bits f x ≡ cond s (top f) 0 + (size a - prec f) * hid f + a / 2 ^ (size a - prec f)
unfolding to_bits
bits_of f nan s a v = absurd v
bits_of f (inf t) s a v = absurd v
bits_of f (fin t m e) s a v =
    ap (λ (n : ℕ). cond t (top f) 0 + (size n - prec f) * hid f + n / 2 ^ (size n - prec f)) (ap (λ (n : ℕ). n / down e) v.1 ∙ mul-div_cancel a (down_pos e))
    ∙ ap (λ (b : Bool). cond b (top f) 0 + (size a - prec f) * hid f + a / 2 ^ (size a - prec f)) v.0

pub value_bits : (f : Format) (x : Float) (q k : ℕ) → HasValue x false (q * 2 ^ k) (2 ^ low f) → (k ≡ 0) ⊎ (hid f ≤ q) → q ≤ 2 ^ prec f → to_bits f x ≡ k * hid f + q
value_bits f x q k v lo hi = bits_of f x false (q * 2 ^ k) v ∙ add_assoc 0 _ _ ∙ zero-add _ ∙ written_is (prec f) (two f) k q lo hi

-- ---- values that may be too large

-- the exponent of two from which they are
abbrev over : Format → ℕ
over f = low f + suc (emax f)

last_carry : (f : Format) (k : ℕ) → prec f + k ≡ over f → ones f * hid f ≡ k * hid f + 2 ^ prec f
last_carry f k h = ap (λ (x : ℕ). x * hid f) (go (prec f) (emax f) (two f) h) ∙ add-mul k 2 (hid f) ∙ ap (λ (x : ℕ). k * hid f + x) (sym (twice (prec f) (two f)))
  where
    go : (p e : ℕ) → 2 ≤ p → p + k ≡ e + p - 2 + suc e → 2 * e + 1 ≡ k + 2
    go p e l h = omega arith

units_over : (f : Format) (q k : ℕ) → 2 ^ over f ≤ q * 2 ^ k → to_bits f (units f false q k) ≡ ones f * hid f
unfolding units to_bits
units_over f q k h =
    ap (to_bits f) (cond_no (ltb (q * 2 ^ k) (2 ^ over f)) (odd (suc (prec f)) false q k (low f)) (inf false) (le→nltb (q * 2 ^ k) (2 ^ over f) h))
    ∙ zero-add (ones f * hid f)

units_bits : (f : Format) (q k : ℕ) → (k ≡ 0) ⊎ (hid f ≤ q) → q ≤ 2 ^ prec f → prec f + k ≤ over f → to_bits f (units f false q k) ≡ k * hid f + q
units_bits f q k lo hi fit = go (eq-or-lt_of_le hi) (eq-or-lt_of_le fit)
  where
    finite : q * 2 ^ k < 2 ^ over f → to_bits f (units f false q k) ≡ k * hid f + q
    finite l = value_bits f (units f false q k) q k (units_val f false q k l) lo hi

    go : (q ≡ 2 ^ prec f) ⊎ (q < 2 ^ prec f) → (prec f + k ≡ over f) ⊎ (prec f + k < over f) → to_bits f (units f false q k) ≡ k * hid f + q
    go (inr l) m = finite (lt_of_lt_of_le (shl_lt (prec f) k l) (pow_mono fit))
    go (inl e) (inr l) = finite (rw (e, ← pow-add) (pow-lt l))
    go (inl e) (inl m) = units_over f q k (rw (e, ← pow-add, m) (le_refl (2 ^ over f))) ∙ last_carry f k m ∙ ap (λ (x : ℕ). k * hid f + x) (sym e)

-- ---- num / den rounded, which is m / v times 2 ^ k times the least value
module _ (f : Format) (num den m v k : ℕ) (den_pos : 0 < den) (v-pos : 0 < v) (same : num * 2 ^ low f * v ≡ m * (den * 2 ^ k)) (hi : m < 2 ^ prec f * v) where
  abbrev n : ℕ
  n = num * 2 ^ low f

  u_pos : 0 < den * 2 ^ k
  u_pos = mul-pos den_pos (pow_pos k)

  whole : n / den / 2 ^ k ≡ m / v
  whole = div-div-eq-div-mul n den (2 ^ k) ∙ div_same n (den * 2 ^ k) m v u_pos v-pos same

  under : n / den < 2 ^ (prec f + k)
  under = rw pow-add ((div-lt_iff_lt-mul (pow_pos k)).0 (rw whole ((div-lt_iff_lt-mul v-pos).1 hi)))

  reaches : hid f * v ≤ m → 2 ^ (prec f - 1 + k) ≤ n / den
  reaches g = rw pow-add ((le-div_iff_mul-le (pow_pos k)).0 (rw whole ((le-div_iff_mul-le v-pos).1 g)))

  rounds : (k ≡ 0) ⊎ (hid f * v ≤ m) → round f false num den ≡ units f false (closest m v) k
  rounds lo =
      round_is f false num den
      ∙ ap (λ (j : ℕ). units f false (closest n (den * 2 ^ j)) j) (drops (prec f) (two f) (n / den) k (⊎_map (λ z. z) reaches lo) under)
      ∙ ap (λ (q : ℕ). units f false q k) (closest_same n (den * 2 ^ k) m v u_pos v-pos same)

  closest_ge : hid f * v ≤ m → hid f ≤ closest m v
  closest_ge g = le_trans ((le-div_iff_mul-le v-pos).1 g) (nearest-ge (m / v) (compare (m % v * 2) v))

  closest_le : closest m v ≤ 2 ^ prec f
  closest_le = le_trans (nearest-le (m / v) (compare (m % v * 2) v)) ((div-lt_iff_lt-mul v-pos).1 hi)

  pub round_bits : (k ≡ 0) ⊎ (hid f * v ≤ m) → prec f + k ≤ over f → to_bits f (round f false num den) ≡ k * hid f + closest m v
  round_bits lo fit = ap (to_bits f) (rounds lo) ∙ units_bits f (closest m v) k (⊎_map (λ z. z) closest_ge lo) closest_le fit

  pub round_over : hid f * v ≤ m → over f ≤ prec f - 1 + k → to_bits f (round f false num den) ≡ ones f * hid f
  round_over g far =
      ap (to_bits f) (rounds (inr g))
      ∙ units_over f (closest m v) k (le_trans (pow_mono far) (rw pow-add (mul-le-mul_right (2 ^ k) (closest_ge g))))
