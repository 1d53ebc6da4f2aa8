-- At each step, what the second walk over the run says there.
use Rattle.tray.proofs.Walking.{putting_end, putting_fits, putting_on}
use Rattle.tray.proofs.Packing.put_tray.Goals as goal

pub put_record-end-requires : goal.put_record-end-requires
put_record-end-requires c = putting_fits c.loop-list.invariant (rw (c.unwrap.ensures, c.in-Some.is) at c.list_at.ensures)

pub loop-list-preserved : goal.loop-list-preserved
loop-list-preserved c =
    let here = rw (c.unwrap.ensures, c.in-Some.is) at c.list_at.ensures in
    putting_on c.loop-list.invariant here c.put_record-end.ensures.length c.put_record-end.ensures.bytes

pub returns : goal.returns
returns c = putting_end c.loop-list.invariant (rw (c.unwrap.ensures, c.in_default.is) at c.list_at.ensures)
