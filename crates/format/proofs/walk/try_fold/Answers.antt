-- What the cursor reads and the step's answer say what is left.
use mathlib.Core.Path.{sym}
use native.Mathlib.Omega.{arith}
use Rattle.laws.proofs.Exits.{exit_is}
use Rattle.format.proofs.Walking.{ahead}
use Rattle.format.proofs.Folding.{left_start, left_end, left_unread, left_stopped, left_on}
use Rattle.format.proofs.walk.try_fold.Goals as goal

pub loop-step-init : goal.loop-step-init
loop-step-init g c = left_start _ _ _ _ _ (omega arith)

pub returns-in_err-item : goal.returns-in_err-item
returns-in_err-item g c =
    rw (exit_is c.from_residual.ensures.1) (left_unread c.loop-step.invariant _ c.in_err-item.ensures)

pub returns-in_err-s : goal.returns-in_err-s
returns-in_err-s g c =
    rw (exit_is c.from_residual-in_err-s.ensures.1) (left_stopped c.loop-step.invariant c.op.result c.op.ensures (rw c.in-Some.is at c.in_ok-item.ensures) _ c.in_err-s.ensures)

pub loop-step-smaller : goal.loop-step-smaller
loop-step-smaller g c = omega (arith, ahead _ _ _ (sym (rw c.in-Some.is at c.in_ok-item.ensures)))

pub loop-step-preserved : goal.loop-step-preserved
loop-step-preserved g c = left_on c.loop-step.invariant c.op.result c.op.ensures (rw c.in-Some.is at c.in_ok-item.ensures) _ c.in_ok-s.ensures

pub returns : goal.returns
returns g c = left_end c.loop-step.invariant (rw c.in_default.is at c.in_ok-item.ensures)
