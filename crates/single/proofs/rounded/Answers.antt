-- `single::rounded` meets its contract: each return is a law of `proofs/Rounding.antt`. Assumes nothing.
use mathlib.Core.Path.{◌≡◌, sym, ap, ◌∙◌}
use Prim.Native.Nat.{ℕ, ◌+◌, ◌-◌, ◌*◌, ◌/◌, ◌^◌}
use native.Mathlib.Nat.{lt_of_lt_of_le}
use lib.Dec.{lit≤}
use Rattle.single.specs.Single.{to_single}
use Rattle.single.proofs.Rounding.{single_lt, to_zero, to_subnormal, to_normal, to_infinity, to_nan}
use Rattle.single.proofs.rounded.Goals as goal
use Rattle.single.proofs.rounded.Goals.{After-nearest-then-exponent-lt-PAST_LARGEST}

abbrev magnitude : After-nearest-then-exponent-lt-PAST_LARGEST → ℕ
magnitude c = c.before.before.before.before.args.magnitude

normal : (c : After-nearest-then-exponent-lt-PAST_LARGEST) → (magnitude c / 2 ^ 52 - 897) * 2 ^ 23 + c.nearest-then-exponent-lt-PAST_LARGEST.result ≡ to_single (magnitude c)
normal c =
    ap (λ (r : ℕ). (magnitude c / 2 ^ 52 - 897) * 2 ^ 23 + r) c.nearest-then-exponent-lt-PAST_LARGEST.ensures
    ∙ sym (to_normal (magnitude c) c.before.before.before.before.requires c.before.before.if-exponent-lt-LEAST_NORMAL.false c.before.if-exponent-lt-PAST_LARGEST.true)

pub returns-then-exponent-lt-HALF_LEAST : goal.returns-then-exponent-lt-HALF_LEAST
returns-then-exponent-lt-HALF_LEAST c =
    sym (to_zero c.args.magnitude c.requires c.if-exponent-lt-HALF_LEAST.true)

pub returns-then-exponent-lt-LEAST_NORMAL : goal.returns-then-exponent-lt-LEAST_NORMAL
returns-then-exponent-lt-LEAST_NORMAL c =
    c.nearest.ensures ∙ sym (to_subnormal c.args.magnitude c.requires c.if-exponent-lt-HALF_LEAST.false c.if-exponent-lt-LEAST_NORMAL.true)

pub overflow_add-result : goal.overflow_add-result
overflow_add-result c =
    record { fits = rw (normal (goal.at.overflow_add-result c).After-nearest-then-exponent-lt-PAST_LARGEST) (lt_of_lt_of_le (single_lt (magnitude (goal.at.overflow_add-result c).After-nearest-then-exponent-lt-PAST_LARGEST)) (lit≤ tt)) }

pub returns-then-exponent-lt-PAST_LARGEST : goal.returns-then-exponent-lt-PAST_LARGEST
returns-then-exponent-lt-PAST_LARGEST c =
    normal (goal.at.returns-then-exponent-lt-PAST_LARGEST c).After-nearest-then-exponent-lt-PAST_LARGEST

pub returns-then-magnitude-le-INFINITY64 : goal.returns-then-magnitude-le-INFINITY64
returns-then-magnitude-le-INFINITY64 c =
    sym (to_infinity c.args.magnitude c.requires c.if-exponent-lt-PAST_LARGEST.false c.if-magnitude-le-INFINITY64.true)

pub returns : goal.returns
returns c =
    sym (to_nan c.args.magnitude c.requires c.if-magnitude-le-INFINITY64.false)
