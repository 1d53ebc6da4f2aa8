-- `single::to_single` meets its contract: the sign goes apart (`single_sign`), and the sum is below 2 ^ 32 as what it is equal to. Assumes nothing.
use mathlib.Core.Path.{◌≡◌, sym, ap, ◌∙◌}
use Prim.Native.Nat.{ℕ, ◌+◌, ◌*◌, ◌/◌, ◌^◌}
use native.Mathlib.Nat.{lt_of_lt_of_le}
use lib.Dec.{lit≤}
use Rattle.single.specs.Single.{to_single}
use Rattle.single.proofs.Rounding.{single_lt, single_sign}
use Rattle.single.proofs.to_single.Goals as goal
use Rattle.single.proofs.to_single.Goals.{After-rounded}

sum : (c : After-rounded) → c.before.args.bits / 2 ^ 63 * 2 ^ 31 + c.rounded.result ≡ to_single c.before.args.bits
sum c =
    let s = c.before in
    ap (λ (r : ℕ). s.args.bits / 2 ^ 63 * 2 ^ 31 + r) c.rounded.ensures ∙ sym (single_sign s.args.bits s.ranges.bits.fits)

pub overflow_add-result : goal.overflow_add-result
overflow_add-result c =
    record { fits = rw (sum (goal.at.overflow_add-result c).After-rounded) (lt_of_lt_of_le (single_lt c.args.bits) (lit≤ tt)) }

pub overflow_cast-result : goal.overflow_cast-result
overflow_cast-result c =
    record { fits = rw (sum (goal.at.overflow_cast-result c).After-rounded) (single_lt c.args.bits) }

pub returns : goal.returns
returns c =
    sum (goal.at.returns c).After-rounded
