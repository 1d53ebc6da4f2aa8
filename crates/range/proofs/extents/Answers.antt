-- What a pair can say no z is too short for, so its test passes.
use native.Mathlib.Omega.{arith}
use mathlib.Core.Path.{sym, ◌∙◌}
use mathlib.Core.Bool.{true}
use borrow.Author.Tests.{le-leb}
use Rattle.lengths.specs.Lengths as ranges
use Rattle.range.proofs.Pairs.{with_zero}
use Rattle.range.proofs.extents.Goals as goal

pub returns-in-ZeroEnded : goal.returns-in-ZeroEnded
unfolding ranges.extents
returns-in-ZeroEnded c =
    rw c.in-ZeroEnded.is (c.text_extents.ensures (λ m. true) (λ m h. sym (le-leb m 65535 (omega arith))) ∙ with_zero c.args.pairs.now)

pub returns-in-Counted : goal.returns-in-Counted
unfolding ranges.extents
returns-in-Counted c = rw c.in-Counted.is (c.text_extents-in-Counted.ensures _ c.most_counted.ensures)
