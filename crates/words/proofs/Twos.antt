-- Two's complement: integers and their 64 bits, and the sign of an integer of any size.
use Rattle.std.proofs.Common.{◌≡◌, ℕ, zero, suc, ◌+◌, ◌-◌, ◌*◌, ◌/◌, ◌%◌, ◌^◌, ◌<◌, ◌≤◌, Bool, true, false, cond, ltb, ℤ, pos, negsuc, ◌-ℤ◌, refl, ap, ◌∙◌, true≢false, mod-eq_of_lt, zero-add, arith, lit<, to_z-of_z, w64, SFits, to_z, of_z, ltb-false, ltb-true, le-ltb}
use native.Mathlib.Nat.{mod-eq-sub-mod, pow-le-pow_right}
use lib.Signed.{lt_z}
use Rattle.definition.specs.Bytes.{extent, signed, low}
use Rattle.laws.proofs.Bytes.{signed_low, signed_high}

-- ---- -1 - z

abbrev pub flip : ℤ → ℤ
flip (pos n) = negsuc n
flip (negsuc n) = pos n

minus_one : (z : ℤ) → negsuc 0 -ℤ z ≡ flip z
minus_one (pos zero) = refl
minus_one (pos (suc n)) = ap (λ (m : ℕ). negsuc (suc m)) (zero-add n)
minus_one (negsuc n) =
    let e : suc n - 1 ≡ n = omega arith in
    rw (le-ltb (suc n) 1 (omega arith), e)

flip_fits : (z : ℤ) → SFits w64 z → SFits w64 (flip z)
flip_fits (pos n) f = record { sfits = f.sfits }
flip_fits (negsuc n) f = record { sfits = f.sfits }

pub minus_one_fits : (z : ℤ) → SFits w64 z → SFits w64 (negsuc 0 -ℤ z)
minus_one_fits z f = rw (minus_one z) (flip_fits z f)

pub minus_one_is : (z : ℤ) → SFits w64 z → to_z w64 (of_z w64 (negsuc 0 -ℤ z)) ≡ flip z
minus_one_is z f = to_z-of_z (minus_one_fits z f) ∙ minus_one z

-- ---- the sign of an integer that the code tests

pub extent_fits : (x : ℤ) → SFits w64 x → extent x < 2 ^ 63
extent_fits (pos n) f = f.sfits
extent_fits (negsuc n) f = f.sfits

pub negative : (x : ℤ) → SFits w64 x → lt_z (to_z w64 (of_z w64 x)) (pos 0) ≡ true → x ≡ negsuc (extent x)
negative (pos n) f t = absurd (omega (arith, ltb-true n 0 (rw (to_z-of_z f) at t)))
negative (negsuc n) f t = refl

pub positive : (x : ℤ) → SFits w64 x → lt_z (to_z w64 (of_z w64 x)) (pos 0) ≡ false → x ≡ pos (extent x)
positive (pos n) f t = refl
positive (negsuc n) f t = absurd (true≢false (rw (to_z-of_z f) at t))

-- ---- the integer of 64 bits from 2^63 on

pub signed_top : (w n : ℕ) → 2 ^ 63 ≤ w → n + w ≡ 2 ^ 64 - 1 → signed 8 w ≡ negsuc n
signed_top w n h e =
    let q : 256 ^ 8 - 1 - w ≡ n = omega arith in
    signed_high 8 w (omega arith) ∙ ap negsuc q

-- ---- a sign restored: u, below `count`, by adding and subtracting half of it

restore : (count u w : ℕ) → u < count → count ≤ 2 ^ 56 → w < 2 ^ 64 → (w + count / 2) % 2 ^ 64 ≡ (u + count / 2) % count → signed 8 w ≡ cond (ltb (u * 2) count) (pos u) (negsuc (count - 1 - u))
restore count u w h c l e = go (ltb (u * 2) count) refl
  where
    go : (t : Bool) → ltb (u * 2) count ≡ t → signed 8 w ≡ cond t (pos u) (negsuc (count - 1 - u))
    go true b =
        let k : u * 2 < count = ltb-true (u * 2) count b in
        let m : (u + count / 2) % count ≡ u + count / 2 = mod-eq_of_lt (omega arith) in
        let x : w ≡ u = omega arith in
        rw x (signed_low 8 u (omega arith))
    go false b =
        let k : count ≤ u * 2 = ltb-false (u * 2) count b in
        let m : (u + count / 2) % count ≡ u + count / 2 - count = mod-eq-sub-mod (omega arith) ∙ mod-eq_of_lt (omega arith) in
        signed_top w (count - 1 - u) (omega arith) (omega arith)

pub restored_is : (n u w : ℕ) → n < 8 → u < 256 ^ low n → w < 2 ^ 64 → (w + 256 ^ n / 2) % 2 ^ 64 ≡ (u + 256 ^ n / 2) % 256 ^ n → signed 8 w ≡ signed (low n) u
unfolding signed
restored_is n u w h l k e =
    let q : low n ≡ n = omega arith in
    rw q (restore (256 ^ n) u w (rw q at l) (pow-le-pow_right (lit< tt) {i = n} {j = 7} (omega arith)) k e)
