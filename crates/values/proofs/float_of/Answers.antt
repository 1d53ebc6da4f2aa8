-- `float_of` meets its contract: a pattern is a NaN's just above infinity's, signs left aside.
use mathlib.Core.Path.{refl, sym, ap, ◌∙◌, subst}
use mathlib.Core.Bool.{Bool, not}
use Prim.Native.Nat.{ℕ, ◌≤◌, ◌%◌, ◌^◌}
use lib.Dec.{T}
use lib.Ieee.{binary64, of_bits, is_nan, nan_bits}
use lib.Ieee.Bits.{nan_bits_is, nan_bits_above, to_bits-of_bits}
use borrow.Author.Tests.{le-ltb, lt-ltb}
use Rattle.definition.specs.Values.{float}
use Rattle.values.proofs.float_of.Goals as goal

no_nan : (b : ℕ) → b % 2 ^ 63 ≤ 0x7ff0_0000_0000_0000 → T (not (nan_bits binary64 b))
no_nan b h = subst (λ (t : Bool). T (not t)) (sym (nan_bits_above binary64 b ∙ le-ltb _ _ h)) tt

float_no_nan : (b : ℕ) → b % 2 ^ 63 ≤ 0x7ff0_0000_0000_0000 → T (not (is_nan (of_bits binary64 b)))
float_no_nan b h = subst (λ (t : Bool). T (not t)) (nan_bits_is binary64 b) (no_nan b h)

pub float_from_bits-result : goal.float_from_bits-result
float_from_bits-result c =
    no_nan c.args.b c.if-b-gt-INFINITY.false

pub returns-then-b-gt-INFINITY : goal.returns-then-b-gt-INFINITY
returns-then-b-gt-INFINITY c =
    record { says = λ l. refl; proper = subst T (sym (nan_bits_above binary64 c.args.b ∙ lt-ltb _ _ c.if-b-gt-INFINITY.true)) tt; inside = λ l. tt }

pub returns-else-b-gt-INFINITY : goal.returns-else-b-gt-INFINITY
returns-else-b-gt-INFINITY c =
    let b = c.args.b in
    let f = float_no_nan b c.if-b-gt-INFINITY.false in
    record { says = λ l. ap float (to_bits-of_bits binary64 b c.ranges.b.fits f); proper = f; inside = λ l. tt }
