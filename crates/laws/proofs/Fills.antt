-- The fill is the least number that takes an offset to a multiple of the alignment: what any such number makes up for is the remainder, which is below the alignment.
use Prim.Native.Nat.{ℕ, zero, suc, ◌+◌, ◌-◌, ◌%◌, ◌≤◌}
use native.Mathlib.Nat.{add-zero, mod-lt, mod_self, mod-eq_of_lt, mod-add-mod}
use native.Mathlib.Omega.{arith}
use mathlib.Core.Path.{◌≡◌, refl, sym, ap, ◌∙◌}
use mathlib.Core.Bool.{false}
use lib.Dec.{eqb, ltb}
use borrow.Author.Tests.{eqb-true, eqb-false, ltb-true, ltb-false}
use borrow.Table.Steps.{cases}
use Rattle.laws.specs.Claims.{FillOf, Fills}

above_zero : (r : ℕ) → eqb r 0 ≡ false → 1 ≤ r
above_zero zero e = absurd (eqb-false 0 0 e refl)
above_zero (suc r) e = omega arith

module _ (a n : ℕ) (h : 1 ≤ a) where
  -- a number below what the alignment lacks leaves the sum short of a multiple
  short : (m : ℕ) → 1 ≤ n % a → (n + m) % a ≡ 0 → m + n % a ≤ a - 1 → ⊥
  short m one e l =
      let whole : (n % a + m) % a ≡ n % a + m = mod-eq_of_lt (omega (arith, l, h)) in
      omega (arith, sym whole ∙ mod-add-mod n a m ∙ e, one)

  pub fill_of_lem : FillOf a n
  fill_of_lem =
      cases (eqb (n % a) 0)
      (λ e. record { below = rw e h; reaches = rw (e, add-zero) (eqb-true (n % a) 0 e); least = λ m q. rw e (omega arith) })
      (λ e. let one = above_zero (n % a) e in record {
        below = rw e (omega (arith, one, h));
        reaches = rw e (sym (mod-add-mod n a (a - n % a)) ∙ ap (λ (x : ℕ). x % a) (omega (arith, mod-lt n h)) ∙ mod_self a);
        least = λ m q. rw e (cases (ltb m (a - n % a)) (λ t. absurd (short m one q (omega (arith, ltb-true m (a - n % a) t)))) (λ t. ltb-false m (a - n % a) t));
      })

pub fills : Fills
fills = fill_of_lem
