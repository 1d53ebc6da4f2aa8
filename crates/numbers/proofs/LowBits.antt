-- The remainder by 2^64 by a float's bits: below 2^64 a float is its own, and from there on it is a whole number, whose lowest 64 bits are left.
use Rattle.std.proofs.Common.{◌≡◌, ℕ, zero, suc, ◌+◌, ◌-◌, ◌*◌, ◌/◌, ◌%◌, ◌^◌, ◌<◌, ◌≤◌, Bool, true, false, cond, T, eqb, ltb, leb, pos, sym, refl, ap, subst, ◌∙◌}
use Rattle.std.proofs.Common.{lt_of_lt_of_le, lt_of_le_of_lt, le_of_eq, mod-lt, mod-eq_of_lt, mul_right_comm, mul_assoc, mul-one, mul-lt-mul_of_pos_right, lt_of_mul-lt-mul_right, arith, pow_pos, pow_mono, pow-add, shl_lt}
use mathlib.Core.Bool.{false≢true}
use native.Mathlib.Nat.{eq_of_mul-eq-mul_right, mul-mod_left}
use borrow.Author.Tests.{le-leb, lt-leb, ltb-false}
use lib.Ieee.{Float, nan, inf, fin, binary64, up, down, units, round, rem, neg, is_nan, fits, odd, of_int, of_fields, of_bits, to_bits}
use lib.Ieee.Fits.{down_pos, rem-fits, round_is}
use lib.Ieee.Bits.{of_bits-to_bits}
use lib.Ieee.Exact.{HasValue, odd_sign}
use lib.Ieee.Scale.{round_same}
use Rattle.single.proofs.Packing.{rescale, bits_of}
use Rattle.numbers.proofs.Integers.{fields_value}
use Rattle.numbers.proofs.Remainders.{two64, left, scaled, held, remainder}

-- ---- of floats

neg_odd : (d q k l : ℕ) → neg (odd d false q k l) ≡ odd d true q k l
unfolding neg odd
neg_odd d zero k l = refl
neg_odd d (suc q) k l = refl

neg_units : (q k : ℕ) → neg (units binary64 false q k) ≡ units binary64 true q k
unfolding units neg
neg_units q k = go (ltb (q * 2 ^ k) (2 ^ 2098))
  where
    go : (b : Bool) → neg (cond b (odd 54 false q k 1074) (inf false)) ≡ cond b (odd 54 true q k 1074) (inf true)
    go true = neg_odd 54 q k 1074
    go false = refl

neg_round : (a c : ℕ) → neg (round binary64 false a c) ≡ round binary64 true a c
neg_round a c = ap neg (round_is binary64 false a c) ∙ neg_units _ _ ∙ sym (round_is binary64 true a c)

-- two floats of one value are one float
same_value : (x y : Float) (s : Bool) (a : ℕ) → T (fits binary64 x) → T (fits binary64 y) → HasValue x s a (2 ^ 1074) → HasValue y s a (2 ^ 1074) → x ≡ y
same_value x y s a p q v w =
    sym (of_bits-to_bits binary64 x p) ∙ ap (of_bits binary64) (bits_of binary64 x s a v ∙ sym (bits_of binary64 y s a w)) ∙ of_bits-to_bits binary64 y q

-- ---- of a value a / c
own : (y : Float) (s : Bool) (a c : ℕ) → T (fits binary64 y) → 0 < c → HasValue y s a c → a < 2 ^ 64 * c → rem binary64 y two64 ≡ y
own nan s a c f p v l = absurd v
own (inf t) s a c f p v l = absurd v
own (fin t m e) s a c f p v l =
    let d = down e in
    let less : m * up e < 2 ^ 64 * d =
    lt_of_mul-lt-mul_right c (lt_of_le_of_lt (le_of_eq v.1) (lt_of_lt_of_le (mul-lt-mul_of_pos_right l (down_pos e)) (le_of_eq (mul_right_comm (2 ^ 64) c d)))) in
    let same : left m e ≡ m * up e = mod-eq_of_lt less in
    let h = held t m e f in
    let n = h.q * 2 ^ h.j in
    let given : HasValue (rem binary64 (fin t m e) two64) t n (2 ^ 1074) = rescale _ t (left m e) d n (2 ^ 1074) (down_pos e) (sym h.is) (remainder t m e f) in
    same_value (rem binary64 (fin t m e) two64) (fin t m e) t n (rem-fits binary64 (fin t m e) two64 f) f given (refl, ap (λ (k : ℕ). k * 2 ^ 1074) (sym same) ∙ h.is)

-- of m * 2 ^ j / 2 ^ 1074, where that is whole
whole : (y : Float) (s : Bool) (m j : ℕ) → 1074 ≤ j → HasValue y s (m * 2 ^ j) (2 ^ 1074) → rem binary64 y two64 ≡ round binary64 s (m * 2 ^ (j - 1074) % 2 ^ 64) 1
unfolding rem
whole nan s m j h v = absurd v
whole (inf t) s m j h v = absurd v
whole (fin t n e) s m j h v =
    let d = down e in
    let w = m * 2 ^ (j - 1074) in
    let sub : j ≡ j - 1074 + 1074 = omega arith in
    let up_w : m * 2 ^ j ≡ w * 2 ^ 1074 = ap (λ (k : ℕ). m * 2 ^ k) sub ∙ rw (pow-add 2 (j - 1074) 1074) (sym (mul_assoc m (2 ^ (j - 1074)) (2 ^ 1074))) in
    let is : n * up e ≡ w * d =
    eq_of_mul-eq-mul_right (2 ^ 1074) (pow_pos 1074) (n * up e) (w * d) (v.1 ∙ ap (λ (k : ℕ). k * d) up_w ∙ mul_right_comm w (2 ^ 1074) d) in
    let cut : left n e ≡ w % 2 ^ 64 * d = ap (λ (k : ℕ). k % (2 ^ 64 * d)) is ∙ scaled w (2 ^ 64) d (pow_pos 64) (down_pos e) in
    rw (mul-one (n * up e), mul-one d, v.0)
    (round_same binary64 s (left n e) d (w % 2 ^ 64) 1 (down_pos e) (omega arith) (mul-one (left n e) ∙ cut))

-- of a number shifted by 64 places and more nothing is left
pub shifted : (m k : ℕ) → cond (ltb k 64) (m * 2 ^ k % 2 ^ 64) 0 ≡ m * 2 ^ k % 2 ^ 64
shifted m k = go (ltb k 64) refl
  where
    go : (t : Bool) → ltb k 64 ≡ t → cond t (m * 2 ^ k % 2 ^ 64) 0 ≡ m * 2 ^ k % 2 ^ 64
    go true e = refl
    go false e =
        let sub : k ≡ k - 64 + 64 = omega (arith, ltb-false k 64 e) in
        sym (ap (λ (n : ℕ). m * 2 ^ n % 2 ^ 64) sub ∙ rw (pow-add 2 (k - 64) 64, ← mul_assoc m (2 ^ (k - 64)) (2 ^ 64)) (mul-mod_left (m * 2 ^ (k - 64)) (2 ^ 64)))

-- ---- by the sign, the exponent x and the fraction t
module _ (s : Bool) (t : ℕ) (t_lt : t < 2 ^ 52) where
  below : (x : ℕ) → x ≤ 1086 → T (fits binary64 (of_fields binary64 s x t)) → rem binary64 (of_fields binary64 s x t) two64 ≡ of_fields binary64 s x t
  unfolding of_fields
  below zero h f =
      let l : 52 + 0 ≤ 1138 = omega arith in
      own (odd 53 s t 0 1074) s (t * 2 ^ 0) (2 ^ 1074) f (pow_pos 1074) (odd_sign 53 s t 0 1074) (lt_of_lt_of_le (shl_lt 52 0 t_lt) (pow_mono l))
  below (suc j) h f =
      let m_lt : 2 ^ 52 + t < 2 ^ 53 = omega arith in
      let l : 53 + j ≤ 1138 = omega arith in
      own (of_fields binary64 s (suc j) t) s ((2 ^ 52 + t) * 2 ^ j) (2 ^ 1074) f (pow_pos 1074) (fields_value s t t_lt j (omega arith)) (lt_of_lt_of_le (shl_lt 53 j m_lt) (pow_mono l))

  above : (x : ℕ) → 1086 < x → x < 2047 → rem binary64 (of_fields binary64 s x t) two64 ≡ round binary64 s ((2 ^ 52 + t) * 2 ^ (x - 1075) % 2 ^ 64) 1
  above zero l h = absurd (omega arith)
  above (suc j) l h =
      let same : j - 1074 ≡ suc j - 1075 = omega arith in
      whole (of_fields binary64 s (suc j) t) s (2 ^ 52 + t) j (omega arith) (fields_value s t t_lt j h)
      ∙ ap (λ (n : ℕ). round binary64 s ((2 ^ 52 + t) * 2 ^ n % 2 ^ 64) 1) same

  at_end : rem binary64 (of_fields binary64 s 2047 t) two64 ≡ nan
  unfolding of_fields rem
  at_end = go (eqb t 0)
    where
      go : (b : Bool) → rem binary64 (cond b (inf s) nan) two64 ≡ nan
      go true = refl
      go false = refl

-- ---- by the code's tests
pub not_a_number : (x : Float) → is_nan x ≡ true → x ≡ rem binary64 x two64
unfolding is_nan rem
not_a_number nan h = refl
not_a_number (inf s) h = absurd (false≢true h)
not_a_number (fin s m e) h = absurd (false≢true h)

module _ (x : Float) (f : T (fits binary64 x)) where
  abbrev b : ℕ
  b = to_bits binary64 x

  abbrev s : Bool
  s = leb (2 ^ 63) b

  abbrev exponent : ℕ
  exponent = b % 2 ^ 63 / 2 ^ 52

  abbrev t : ℕ
  t = b % 2 ^ 52

  t_lt : t < 2 ^ 52
  t_lt = mod-lt b (pow_pos 52)

  fields : of_fields binary64 s exponent t ≡ x
  unfolding of_bits
  fields = of_bits-to_bits binary64 x f

  pub its_own : exponent ≤ 1086 → x ≡ rem binary64 x two64
  its_own h = sym (subst (λ (y : Float). T (fits binary64 y) → rem binary64 y two64 ≡ y) fields (below s t t_lt exponent h) f)

  pub infinite : exponent ≡ 2047 → of_bits binary64 0x7ff8_0000_0000_0000 ≡ rem binary64 x two64
  unfolding of_bits of_fields
  infinite h = sym (at_end s t t_lt) ∙ ap (λ (n : ℕ). rem binary64 (of_fields binary64 s n t) two64) (sym h) ∙ ap (λ (y : Float). rem binary64 y two64) fields

  large : 1086 < exponent → (exponent ≡ 2047 → ⊥) → round binary64 s ((2 ^ 52 + t) * 2 ^ (exponent - 1075) % 2 ^ 64) 1 ≡ rem binary64 x two64
  large l h = sym (above s t t_lt exponent l (omega arith)) ∙ ap (λ (y : Float). rem binary64 y two64) fields

  module _ (l : 1086 < exponent) (h : exponent ≡ 2047 → ⊥) (r : Float) (is : r ≡ of_int binary64 (pos ((2 ^ 52 + t) * 2 ^ (exponent - 1075) % 2 ^ 64))) where
    pub positive : b < 2 ^ 63 → r ≡ rem binary64 x two64
    unfolding of_int
    positive n = is ∙ ap (λ (z : Bool). round binary64 z ((2 ^ 52 + t) * 2 ^ (exponent - 1075) % 2 ^ 64) 1) (sym (lt-leb (2 ^ 63) b n)) ∙ large l h

    pub negative : 2 ^ 63 ≤ b → neg r ≡ rem binary64 x two64
    unfolding of_int
    negative n = ap neg is ∙ neg_round ((2 ^ 52 + t) * 2 ^ (exponent - 1075) % 2 ^ 64) 1 ∙ ap (λ (z : Bool). round binary64 z ((2 ^ 52 + t) * 2 ^ (exponent - 1075) % 2 ^ 64) 1) (sym (le-leb (2 ^ 63) b n)) ∙ large l h
