-- `extent` meets its contract: -1 - x is the extent of a negative x.
use Rattle.std.proofs.Common.{◌≡◌, pos, negsuc, ◌-ℤ◌, nat_abs, ap, ◌∙◌, arith, to_z-of_z, w64, to_z, of_z}
use Rattle.definition.specs.Bytes.{extent}
use Rattle.words.proofs.Twos.{flip, minus_one_fits, minus_one_is, extent_fits, negative, positive}
use Rattle.words.proofs.extent.Goals as goal
use Rattle.words.proofs.extent.Goals.{Else-x-lt0, Then-x-lt0}

flipped : (c : Then-x-lt0) → to_z w64 (of_z w64 (negsuc 0 -ℤ to_z w64 (of_z w64 c.before.args.x))) ≡ pos (extent c.before.args.x)
flipped c =
    let x = c.before.args.x in
    let f = c.before.ranges.x in
    rw (to_z-of_z f) (minus_one_is x f ∙ ap flip (negative x f c.if-x-lt0.true))

kept : (c : Else-x-lt0) → to_z w64 (of_z w64 c.before.args.x) ≡ pos (extent c.before.args.x)
kept c = let f = c.before.ranges.x in to_z-of_z f ∙ positive c.before.args.x f c.if-x-lt0.false

pub overflow_sub-result : goal.overflow_sub-result
overflow_sub-result c =
    let f = c.ranges.x in rw (to_z-of_z f) (minus_one_fits c.args.x f)

pub overflow_cast-result : goal.overflow_cast-result
overflow_cast-result c =
    rw (flipped (goal.at.overflow_cast-result c).Then-x-lt0) (tt, omega (arith, extent_fits c.args.x c.ranges.x))

pub overflow_cast-result-else-x-lt0 : goal.overflow_cast-result-else-x-lt0
overflow_cast-result-else-x-lt0 c =
    rw (kept (goal.at.overflow_cast-result-else-x-lt0 c).Else-x-lt0) (tt, omega (arith, extent_fits c.args.x c.ranges.x))

pub returns-then-x-lt0 : goal.returns-then-x-lt0
returns-then-x-lt0 c =
    ap nat_abs (flipped (goal.at.returns-then-x-lt0 c).Then-x-lt0)

pub returns-else-x-lt0 : goal.returns-else-x-lt0
returns-else-x-lt0 c =
    ap nat_abs (kept (goal.at.returns-else-x-lt0 c).Else-x-lt0)
