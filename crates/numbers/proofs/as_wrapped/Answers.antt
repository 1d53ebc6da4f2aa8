-- `as_wrapped` meets its contract: by the kind of the value, and T writes 0 of a NaN.
use Rattle.std.proofs.Common.{T, ap, rules}
use mathlib.Core.Option.{some}
use lib.Ieee.{binary64, fits}
use lib.Ieee.Bits.{of_bits-to_bits}
use Rattle.numbers.proofs.Signs.{nan_of_bits}
use Rattle.numbers.proofs.as_wrapped.Goals as goal

pub returns-in-Float : goal.returns-in-Float
returns-in-Float c =
    λ l.
    let f : T (fits binary64 c.in-Float.x) = search rules in
    rw (c.in-Float.is, of_bits-to_bits binary64 c.in-Float.x f) (ap some c.wrapped.ensures)

pub returns-in-NotANumber : goal.returns-in-NotANumber
returns-in-NotANumber c = λ l. rw (c.in-NotANumber.is, nan_of_bits _ (rw c.in-NotANumber.is at c.args.v.proper))
