-- `single::from_single` meets its contract: the sign goes apart (`double_sign`), and the sum is below 2 ^ 64 as what it is equal to. Assumes nothing.
use mathlib.Core.Path.{◌≡◌, sym, ap, ◌∙◌}
use Prim.Native.Nat.{ℕ, ◌+◌, ◌*◌, ◌/◌, ◌^◌}
use Rattle.single.specs.Single.{from_single}
use Rattle.single.proofs.Widening.{double_lt, double_sign}
use Rattle.single.proofs.from_single.Goals as goal
use Rattle.single.proofs.from_single.Goals.{After-widened}

sum : (c : After-widened) → c.before.args.bits / 2 ^ 31 * 2 ^ 63 + c.widened.result ≡ from_single c.before.args.bits
sum c =
    let s = c.before in
    ap (λ (r : ℕ). s.args.bits / 2 ^ 31 * 2 ^ 63 + r) c.widened.ensures ∙ sym (double_sign s.args.bits s.ranges.bits.fits)

pub overflow_add-result : goal.overflow_add-result
overflow_add-result c =
    record { fits = rw (sum (goal.at.overflow_add-result c).After-widened) (double_lt c.args.bits) }

pub returns : goal.returns
returns c =
    sum (goal.at.returns c).After-widened
