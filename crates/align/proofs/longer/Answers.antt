-- Two tests that do not overflow tell whether the sum is at most 2^63-1.
use Rattle.std.proofs.Common.{◌+◌, ◌-◌, ◌^◌, ap, arith, le-leb}
use borrow.Author.Tests.{lt-leb}
use Rattle.definition.specs.Answers.{accepted}
use Rattle.definition.specs.States.{longer}
use Rattle.align.proofs.longer.Goals as goal

pub returns-then-n-gt-MAX_LENGTH : goal.returns-then-n-gt-MAX_LENGTH
unfolding longer
returns-then-n-gt-MAX_LENGTH c =
    let a = c.args in rw (lt-leb (a.s.length + a.n) (2 ^ 63 - 1) (omega arith))

pub returns-then-n-s : goal.returns-then-n-s
unfolding longer
returns-then-n-s c =
    let a = c.args in rw (lt-leb (a.s.length + a.n) (2 ^ 63 - 1) (omega arith))

pub returns : goal.returns
unfolding longer
returns c =
    let a = c.args in rw (le-leb (a.s.length + a.n) (2 ^ 63 - 1) (omega arith)) (ap accepted c.further.ensures)
