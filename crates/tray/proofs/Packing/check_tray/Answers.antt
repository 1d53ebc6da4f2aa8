-- At each step, what the first walk over the run says there.
use Rattle.std.proofs.Common.{sym, ◌∙◌}
use Rattle.tray.proofs.Records.{at_most}
use Rattle.tray.proofs.Walking.{checking_end, checking_refused, checking_on}
use Rattle.tray.proofs.Packing.check_tray.Goals as goal

pub returns-in-Err-clause-tray : goal.returns-in-Err-clause-tray
returns-in-Err-clause-tray c =
    let here = rw c.in-Some.is at c.in_ok-list.ensures in
    checking_refused c.loop-list.invariant.0 here c.in-Err.ensures.total ∙ sym c.refused_at.ensures

pub sum-total-requires : goal.sum-total-requires
sum-total-requires c = at_most _ _ _ c.in-Ok.ensures.total

pub loop-list-preserved : goal.loop-list-preserved
loop-list-preserved c =
    let here = rw c.in-Some.is at c.in_ok-list.ensures in
    (checking_on c.loop-list.invariant.0 here c.in-Ok.ensures.total c.sum-total.ensures, c.check_record.ensures.bytes ∙ c.loop-list.invariant.1)

pub returns-clause-tray : goal.returns-clause-tray
returns-clause-tray c = checking_end c.loop-list.invariant.0 (rw c.in_default.is at c.in_ok-list.ensures)
