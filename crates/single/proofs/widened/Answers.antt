-- `single::widened` meets its contract: each return is a law of `proofs/Widening.antt`, where `raised` says that the shift of a subnormal's significand loses no bit.
-- Assumes nothing.
use mathlib.Core.Path.{◌≡◌, sym, ap, ◌∙◌}
use Prim.Native.Nat.{ℕ, ◌+◌, ◌-◌, ◌*◌, ◌%◌, ◌^◌, ◌<◌}
use native.Mathlib.Nat.{lt_of_lt_of_le, mod-eq_of_lt}
use native.Mathlib.Omega.{arith}
use lib.Dec.{lit≤}
use lib.Count.{count_leading_zeros}
use Rattle.single.specs.Single.{from_single}
use Rattle.single.proofs.Widening.{Raised, raised, double_lt, from_zero, from_subnormal, from_normal, from_infinity, from_nan}
use Rattle.single.proofs.widened.Goals as goal
use Rattle.single.proofs.widened.Goals.{Then-magnitude-lt-LEADING32}

abbrev magnitude : Then-magnitude-lt-LEADING32 → ℕ
magnitude c = c.before.before.args.magnitude

abbrev shift : Then-magnitude-lt-LEADING32 → ℕ
shift c = count_leading_zeros 64 (magnitude c) - 11

positive : (c : Then-magnitude-lt-LEADING32) → 0 < magnitude c
positive c = omega (arith, c.before.if-magnitude-eq0.false)

up : (c : Then-magnitude-lt-LEADING32) → Raised (magnitude c) (count_leading_zeros 64 (magnitude c))
up c = raised (magnitude c) (positive c) c.if-magnitude-lt-LEADING32.true

subnormal : (c : Then-magnitude-lt-LEADING32) → (925 - shift c) * 2 ^ 52 + magnitude c * 2 ^ shift c % 2 ^ 64 ≡ from_single (magnitude c)
subnormal c =
    ap (λ (m : ℕ). (925 - shift c) * 2 ^ 52 + m) (mod-eq_of_lt (lt_of_lt_of_le (up c).fits (lit≤ tt)))
    ∙ sym (from_subnormal (magnitude c) (positive c) c.if-magnitude-lt-LEADING32.true)

pub returns-then-magnitude-eq0 : goal.returns-then-magnitude-eq0
returns-then-magnitude-eq0 c =
    sym (ap from_single c.if-magnitude-eq0.true ∙ from_zero)

pub overflow_cast-shift : goal.overflow_cast-shift
overflow_cast-shift c =
    let h = (up (goal.at.overflow_cast-shift c).Then-magnitude-lt-LEADING32).zeros_lt in omega arith

pub overflow_sub-shift : goal.overflow_sub-shift
overflow_sub-shift c =
    let h = (up (goal.at.overflow_sub-shift c).Then-magnitude-lt-LEADING32).zeros_ge in omega arith

pub overflow_sub-result : goal.overflow_sub-result
overflow_sub-result c =
    let h = (up (goal.at.overflow_sub-result c).Then-magnitude-lt-LEADING32).zeros_lt in omega arith

pub overflow_shl-result : goal.overflow_shl-result
overflow_shl-result c =
    let h = (up (goal.at.overflow_shl-result c).Then-magnitude-lt-LEADING32).zeros_lt in omega arith

pub overflow_add-result : goal.overflow_add-result
overflow_add-result c =
    record { fits = rw (subnormal (goal.at.overflow_add-result c).Then-magnitude-lt-LEADING32) (double_lt (magnitude (goal.at.overflow_add-result c).Then-magnitude-lt-LEADING32)) }

pub returns-then-magnitude-lt-LEADING32 : goal.returns-then-magnitude-lt-LEADING32
returns-then-magnitude-lt-LEADING32 c =
    subnormal (goal.at.returns-then-magnitude-lt-LEADING32 c).Then-magnitude-lt-LEADING32

pub returns-then-magnitude-lt-INFINITY32 : goal.returns-then-magnitude-lt-INFINITY32
returns-then-magnitude-lt-INFINITY32 c =
    sym (from_normal c.args.magnitude c.if-magnitude-lt-LEADING32.false c.if-magnitude-lt-INFINITY32.true)

pub returns-then-magnitude-eq-INFINITY32 : goal.returns-then-magnitude-eq-INFINITY32
returns-then-magnitude-eq-INFINITY32 c =
    sym (ap from_single c.if-magnitude-eq-INFINITY32.true ∙ from_infinity)

pub returns : goal.returns
returns c =
    sym (from_nan c.args.magnitude c.requires (omega arith))
