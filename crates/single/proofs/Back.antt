-- An f32 made an f64 and rounded again: a number comes back as it was, and a NaN comes back quiet, so what `to_single` gives comes back as it is. Assumes nothing.
use mathlib.Core.Path.{◌≡◌, refl, sym, ap, ◌∙◌}
use mathlib.Core.Bool.{Bool, true, false, not, cond}
use Prim.Native.Nat.{ℕ, zero, suc, ◌+◌, ◌*◌, ◌/◌, ◌%◌, ◌^◌, ◌≤◌, ◌<◌}
use native.Mathlib.Nat.{zero-add, mod-lt, lt_of_lt_of_le}
use native.Mathlib.Omega.{arith}
use lib.Dec.{T, leb, eqb, lit≤}
use lib.Pow.{pow_pos, pow_mono, shl_lt}
use borrow.Author.Tests.{le-leb, lt-leb, eqb-false}
use lib.Ieee.{Float, nan, inf, fin, binary32, binary64, odd, round, of_fields, of_bits, nan_bits, is_nan, fits, to_bits}
use lib.Ieee.Fits.{fits_widens}
use lib.Ieee.Bits.{is_true, is_false, nan_bits_is, of_bits-fits, of_bits-to_bits, to_bits-of_bits}
use lib.Ieee.Exact.{odd_sign, round_exact}
use Rattle.single.specs.Single.{narrow, quiet32, to_single, from_single}
use Rattle.single.proofs.Packing.{bits_of}
use Rattle.single.proofs.Rounding.{narrow_odd, narrow_fits, single_lt, single_negative, to_nan}

-- ---- numbers: rounding to f32 changes nothing in an f32
abbrev Back : Float → Type 0
Back v = to_bits binary32 (narrow v) ≡ to_bits binary32 v

back_odd : (s : Bool) (m j : ℕ) → m < 2 ^ 24 → m * 2 ^ j < 2 ^ 277 → Back (odd 24 s m j 149)
back_odd s m j h l =
    let a = m * 2 ^ j in
    ap (to_bits binary32) (narrow_odd 24 s m j 149)
    ∙ bits_of binary32 (round binary32 s a (2 ^ 149)) s a (round_exact binary32 s a (2 ^ 149) m j (pow_pos 149) h l refl)
    ∙ sym (bits_of binary32 (odd 24 s m j 149) s a (odd_sign 24 s m j 149))

back_fields : (s : Bool) (x t : ℕ) → x < 256 → t < 2 ^ 23 → Back (of_fields binary32 s x t)
unfolding of_fields narrow
back_fields s zero t h t_lt = back_odd s t 0 (omega arith) (lt_of_lt_of_le (shl_lt 23 0 t_lt) (lit≤ tt))
back_fields s (suc j) t h t_lt = go (eqb (suc j) 255) (eqb t 0) (eqb-false (suc j) 255)
  where
    m_lt : 2 ^ 23 + t < 2 ^ 24
    m_lt = omega arith

    go : (a b : Bool) → (a ≡ false → suc j ≡ 255 → ⊥) → Back (cond a (cond b (inf s) nan) (odd 24 s (2 ^ 23 + t) j 149))
    go true true n = refl
    go true false n = refl
    go false b n = let l : 24 + j ≤ 277 = omega (arith, n refl) in back_odd s (2 ^ 23 + t) j m_lt (lt_of_lt_of_le (shl_lt 24 j m_lt) (pow_mono l))

back_bits : (c : ℕ) → Back (of_bits binary32 c)
unfolding of_bits
back_bits c = back_fields (leb (2 ^ 31) c) (c % 2 ^ 31 / 2 ^ 23) (c % 2 ^ 23) (omega arith) (mod-lt c (pow_pos 23))

pub back_single : (c : ℕ) → c < 2 ^ 32 → T (not (nan_bits binary32 c)) → to_single (from_single c) ≡ c
unfolding to_single from_single
back_single c c_lt n =
    let v = of_bits binary32 c in
    let no : nan_bits binary32 c ≡ false = is_false (nan_bits binary32 c) n in
    let not-nan : is_nan v ≡ false = sym (nan_bits_is binary32 c) ∙ no in
    let read : of_bits binary64 (to_bits binary64 v) ≡ v = of_bits-to_bits binary64 v (fits_widens v (of_bits-fits binary32 c)) in
    rw (no, nan_bits_is binary64 (to_bits binary64 v), read, not-nan) (back_bits c ∙ to_bits-of_bits binary32 c c_lt (rw not-nan tt))

-- ---- NaNs
-- the f32 NaN c made quiet
abbrev pub quieted : ℕ → ℕ
quieted c = cond (leb (2 ^ 31) c) (2 ^ 31) 0 + (0x7fc0_0000 + c % 2 ^ 22)

pub back_nan : (c : ℕ) → T (nan_bits binary32 c) → to_single (from_single c) ≡ quieted c
unfolding from_single
back_nan c n = rw (is_true (nan_bits binary32 c) n) (go (leb (2 ^ 31) c) (c % 2 ^ 22) (mod-lt c (pow_pos 22)))
  where
    without_sign : (y : ℕ) → y < 2 ^ 22 → to_single (0x7ff8_0000_0000_0000 + y * 2 ^ 29) ≡ 0x7fc0_0000 + y
    without_sign y h = to_nan (0x7ff8_0000_0000_0000 + y * 2 ^ 29) (omega arith) (omega arith) ∙ omega arith

    go : (s : Bool) (y : ℕ) → y < 2 ^ 22 → to_single (cond s (2 ^ 63) 0 + (0x7ff8_0000_0000_0000 + y * 2 ^ 29)) ≡ cond s (2 ^ 31) 0 + (0x7fc0_0000 + y)
    go true y h = single_negative (0x7ff8_0000_0000_0000 + y * 2 ^ 29) (omega arith) ∙ ap (λ (r : ℕ). 2 ^ 31 + r) (without_sign y h)
    go false y h = simp zero-add (without_sign y h)

-- ---- what `to_single` gives: a NaN among it is quiet already
quieted_quiet : (s : Bool) (y : ℕ) → y < 2 ^ 22 → quieted (cond s (2 ^ 31) 0 + (0x7fc0_0000 + y)) ≡ cond s (2 ^ 31) 0 + (0x7fc0_0000 + y)
quieted_quiet true y h = rw (le-leb (2 ^ 31) (2 ^ 31 + (0x7fc0_0000 + y)) (omega arith)) (omega arith)
quieted_quiet false y h = rw (lt-leb (2 ^ 31) (0 + (0x7fc0_0000 + y)) (omega arith)) (omega arith)

quieted_value : (v : Float) → T (fits binary32 v) → T (nan_bits binary32 (to_bits binary32 v)) → quieted (to_bits binary32 v) ≡ to_bits binary32 v
unfolding to_bits is_nan
quieted_value v h n = go v (rw (nan_bits_is binary32 (to_bits binary32 v), of_bits-to_bits binary32 v h) at n)
  where
    go : (v : Float) → T (is_nan v) → quieted (to_bits binary32 v) ≡ to_bits binary32 v
    go nan t = refl
    go (inf s) t = absurd t
    go (fin s m e) t = absurd t

quieted_single : (b : ℕ) → T (nan_bits binary32 (to_single b)) → quieted (to_single b) ≡ to_single b
unfolding to_single
quieted_single b = go (nan_bits binary64 b)
  where
    go : (t : Bool) → let r = cond t (quiet32 b) (to_bits binary32 (narrow (of_bits binary64 b))) in T (nan_bits binary32 r) → quieted r ≡ r
    go true n = quieted_quiet (leb (2 ^ 63) b) (b / 2 ^ 29 % 2 ^ 22) (mod-lt (b / 2 ^ 29) (pow_pos 22))
    go false n = quieted_value (narrow (of_bits binary64 b)) (narrow_fits (of_bits binary64 b)) n

pub single_again : (b : ℕ) → to_single (from_single (to_single b)) ≡ to_single b
single_again b = go (nan_bits binary32 (to_single b)) refl
  where
    go : (t : Bool) → nan_bits binary32 (to_single b) ≡ t → to_single (from_single (to_single b)) ≡ to_single b
    go true e = let n : T (nan_bits binary32 (to_single b)) = rw e tt in back_nan (to_single b) n ∙ quieted_single b n
    go false e = back_single (to_single b) (single_lt b) (rw e tt)
