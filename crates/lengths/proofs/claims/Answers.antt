-- Each part of the claim has a proof of its own; one of reaching serves both lengths, and one of lying between serves three parts.
use mathlib.Core.Bool.{true, false}
use Rattle.lengths.proofs.Orders.{fill_order}
use Rattle.lengths.proofs.Calls.{lies_between, lies_at, reached}
use Rattle.lengths.proofs.Fixed.{fixed}
use Rattle.lengths.proofs.Over.{over}
use Rattle.lengths.proofs.Numbers.{numbers}
use Rattle.lengths.proofs.claims.Goals as goal

pub returns : goal.returns
returns c =
    record { least = reached false; greatest = reached true; between = lies_between false true; all_least = lies_at false; all_greatest = lies_at true; order = fill_order; fixed = fixed; over = over; numbers = numbers }
