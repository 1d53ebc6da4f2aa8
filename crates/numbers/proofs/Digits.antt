-- The digits of a float that binary64 holds.
use Rattle.std.proofs.Common.{◌≡◌, ℕ, zero, suc, ◌*◌, ◌%◌, ◌^◌, ◌<◌, ◌≤◌, Bool, ◌&&◌, T, eqb, ltb, leb, ℤ, pos, negsuc, sym, ◌∙◌, one-mul, arith, eqb→eq, ltb→lt, leb→le, pow_pos}
use native.Mathlib.Nat.{pow-succ'}
use lib.Ieee.{fin, binary64, up, down, fits}
use lib.Ieee.Fits.{and_l, and_r}

digits : (s : Bool) (m : ℕ) (e : ℤ) → T (fits binary64 (fin s (suc m) e)) → (suc m < 2 ^ 53) × (down e ≤ 2 ^ 1074)
unfolding fits
digits s m e t =
    let odd = eqb (suc m % 2) 1 in
    let few = ltb (suc m) (2 ^ 53) in
    let deep = leb (down e) (2 ^ 1074) in
    let g = and_l (odd && few && deep) (ltb (suc m * up e) (2 ^ 1024 * down e)) t in
    (ltb→lt (suc m) (2 ^ 53) (and_r odd few (and_l (odd && few) deep g)), leb→le (down e) (2 ^ 1074) (and_r (odd && few) deep g))

-- 0 has no fraction
no_half : (s : Bool) (k : ℕ) → T (fits binary64 (fin s zero (negsuc k))) → ⊥
unfolding fits
no_half s k t =
    let e : 2 * 2 ^ k ≡ 1 = sym (pow-succ' 2 k) ∙ sym (one-mul (2 ^ suc k)) ∙ eqb→eq (1 * 2 ^ suc k) 1 t in
    omega (arith, pow_pos k)

pub whole_few : (s : Bool) (m k : ℕ) → T (fits binary64 (fin s m (pos k))) → m < 2 ^ 53
whole_few s zero k f = pow_pos 53
whole_few s (suc m) k f = (digits s m (pos k) f).0

pub fraction_few : (s : Bool) (m k : ℕ) → T (fits binary64 (fin s m (negsuc k))) → (m < 2 ^ 53) × (2 ^ suc k ≤ 2 ^ 1074)
fraction_few s zero k f = absurd (no_half s k f)
fraction_few s (suc m) k f = digits s m (negsuc k) f
