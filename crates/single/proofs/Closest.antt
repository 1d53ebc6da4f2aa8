-- A fraction to the nearest whole number, a tie to the even one, by how twice the remainder compares with the divisor, or by the divisor's half. Assumes nothing.
use mathlib.Core.Path.{◌≡◌, refl, sym, ap, ◌∙◌}
use Prim.Native.Nat.{ℕ, ◌+◌, ◌*◌, ◌/◌, ◌%◌, ◌≤◌, ◌<◌, compare, Ordering}
use native.Mathlib.Nat.{le_of_lt, le_of_eq, div-eq_of_lt, div-add-mod', div-div-eq-div-mul, mod-eq_of_lt, mod-lt}
use native.Mathlib.Numerals.{add-one}
use native.Mathlib.Omega.{arith}
use lib.Dec.{is_le, compare_is_eq}
use borrow.Author.Tests.{le-leb, lt-leb, eq-eqb, ne_eqb}
use lib.Ieee.{nearest}
use lib.Ieee.Nearest.{closest}

-- an ordering is known by its two tests
by_tests : (o p : Ordering) → is_le o ≡ is_le p → compare_is_eq o ≡ compare_is_eq p → o ≡ p
by_tests Ordering.lt Ordering.lt l e = refl
by_tests Ordering.lt Ordering.eq l e = cc
by_tests Ordering.lt Ordering.gt l e = cc
by_tests Ordering.eq Ordering.lt l e = cc
by_tests Ordering.eq Ordering.eq l e = refl
by_tests Ordering.eq Ordering.gt l e = cc
by_tests Ordering.gt Ordering.lt l e = cc
by_tests Ordering.gt Ordering.eq l e = cc
by_tests Ordering.gt Ordering.gt l e = refl

compare_lt : {a b : ℕ} → a < b → compare a b ≡ Ordering.lt
compare_lt {a} {b} h = by_tests (compare a b) Ordering.lt (le-leb a b (le_of_lt h)) (ne_eqb a b (omega arith))

compare_eq : {a b : ℕ} → a ≡ b → compare a b ≡ Ordering.eq
compare_eq {a} {b} h = by_tests (compare a b) Ordering.eq (le-leb a b (le_of_eq h)) (eq-eqb a b h)

compare_gt : {a b : ℕ} → b < a → compare a b ≡ Ordering.gt
compare_gt {a} {b} h = by_tests (compare a b) Ordering.gt (lt-leb a b h) (ne_eqb a b (omega arith))

module _ (n u : ℕ) where
  closest_down : n % u * 2 < u → closest n u ≡ n / u
  closest_down h = ap (nearest (n / u)) (compare_lt h)

  closest_up : u < n % u * 2 → closest n u ≡ n / u + 1
  closest_up h = ap (nearest (n / u)) (compare_gt h) ∙ sym (add-one (n / u))

  closest_even : n % u * 2 ≡ u → closest n u ≡ n / u + n / u % 2
  closest_even h = ap (nearest (n / u)) (compare_eq h)

  -- less than half
  pub closest_none : n * 2 < u → closest n u ≡ 0
  closest_none h =
      let l : n < u = omega arith in
      closest_down (rw (mod-eq_of_lt l) h) ∙ div-eq_of_lt l

-- the unit as h * 2, by its half h: whether n / h is odd, and what n leaves of h
module _ (n h : ℕ) (h-pos : 0 < h) where
  rest : n % (h * 2) ≡ n / h % 2 * h + n % h
  rest =
      let whole = ap (λ (q : ℕ). q * (h * 2)) (div-div-eq-div-mul n h 2) in
      let parity = ap (λ (q : ℕ). q * h) (div-add-mod' (n / h) 2) in
      omega (arith, div-add-mod' n h, div-add-mod' n (h * 2), whole, parity)

  pub half_down : n / h % 2 ≡ 0 → closest n (h * 2) ≡ n / (h * 2)
  half_down z = closest_down n (h * 2) (omega (arith, rw z at rest, mod-lt n h-pos))

  odd : (n / h % 2 ≡ 0 → ⊥) → n % (h * 2) ≡ h + n % h
  odd z = let o : n / h % 2 ≡ 1 = omega arith in rest ∙ rw o (omega arith)

  pub half_up : (n / h % 2 ≡ 0 → ⊥) → 0 < n % h → closest n (h * 2) ≡ n / (h * 2) + 1
  half_up z l = closest_up n (h * 2) (omega (arith, odd z))

  pub half_even : (n / h % 2 ≡ 0 → ⊥) → n % h ≤ 0 → closest n (h * 2) ≡ n / (h * 2) + n / (h * 2) % 2
  half_even z l = closest_even n (h * 2) (omega (arith, odd z))
