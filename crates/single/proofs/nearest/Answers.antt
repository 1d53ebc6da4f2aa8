-- `single::nearest` meets its contract: the unit, 2 ^ k, goes by its half, as in `proofs/Closest.antt`. Assumes nothing.
use mathlib.Core.Path.{◌≡◌, sym, ap, ◌∙◌}
use Prim.Native.Nat.{ℕ, suc, ◌-◌, ◌*◌, ◌/◌, ◌%◌, ◌^◌, ◌<◌}
use native.Mathlib.Nat.{one-mul, mul_comm, mul-pos, pow-succ', mod-eq_of_lt, div-lt_iff_lt-mul}
use native.Mathlib.Omega.{arith}
use lib.Pow.{pow_pos, pow-lt}
use lib.Ieee.Nearest.{closest}
use Rattle.single.proofs.Closest.{half_down, half_up, half_even}
use Rattle.single.proofs.nearest.Goals as goal
use Rattle.single.proofs.nearest.Goals.{Start}

-- the half as the machine has it
abbrev half : Start → ℕ
half s = 1 * 2 ^ (s.args.k - 1) % 2 ^ 64

module _ (s : Start) where
  half_is : half s ≡ 2 ^ (s.args.k - 1)
  half_is = let l : s.args.k - 1 < 64 = omega arith in rw one-mul (mod-eq_of_lt (pow-lt l))

  positive : 0 < half s
  positive = rw half_is (pow_pos (s.args.k - 1))

  twice : half s * 2 ≡ 2 ^ s.args.k
  twice =
      let e : suc (s.args.k - 1) ≡ s.args.k = omega arith in
      ap (λ (h : ℕ). h * 2) half_is ∙ mul_comm (2 ^ (s.args.k - 1)) 2 ∙ sym (pow-succ' 2 (s.args.k - 1)) ∙ ap (λ (x : ℕ). 2 ^ x) e

  gives : (r : ℕ) → closest s.args.n (half s * 2) ≡ r → r ≡ closest s.args.n (2 ^ s.args.k)
  gives r e = sym e ∙ ap (closest s.args.n) twice

  -- the quotient leaves room for one more
  room : s.args.n / (half s * 2) < 2 ^ 63
  room = let p = positive in (div-lt_iff_lt-mul {k = half s * 2} (omega arith)).1 (omega (arith, s.ranges.n.fits))

pub overflow_mul-whole : goal.overflow_mul-whole
overflow_mul-whole c =
    record { fits = rw (twice (goal.at.overflow_mul-whole c).Start) (pow-lt c.requires.below_64) }

pub nonzero_div-whole : goal.nonzero_div-whole
nonzero_div-whole c =
    mul-pos (positive (goal.at.nonzero_div-whole c).Start) (pow_pos 1)

pub nonzero_div-n : goal.nonzero_div-n
nonzero_div-n c =
    positive (goal.at.nonzero_div-n c).Start

pub returns-then-n-half-eq0 : goal.returns-then-n-half-eq0
returns-then-n-half-eq0 c =
    gives (goal.at.returns-then-n-half-eq0 c).Start _ (half_down _ _ (positive (goal.at.returns-then-n-half-eq0 c).Start) c.if-n-half-eq0.true)

pub nonzero_rem-n-2 : goal.nonzero_rem-n-2
nonzero_rem-n-2 c =
    positive (goal.at.nonzero_rem-n-2 c).Start

pub overflow_add-result : goal.overflow_add-result
overflow_add-result c =
    omega (arith, room (goal.at.overflow_add-result c).Start)

pub returns-then-n-half-gt0 : goal.returns-then-n-half-gt0
returns-then-n-half-gt0 c =
    gives (goal.at.returns-then-n-half-gt0 c).Start _ (half_up _ _ (positive (goal.at.returns-then-n-half-gt0 c).Start) c.if-n-half-eq0.false c.if-n-half-gt0.true)

pub overflow_add-result-2 : goal.overflow_add-result-2
overflow_add-result-2 c =
    omega (arith, room (goal.at.overflow_add-result-2 c).Start)

pub returns : goal.returns
returns c =
    gives (goal.at.returns c).Start _ (half_even _ _ (positive (goal.at.returns c).Start) c.if-n-half-eq0.false (omega arith))
