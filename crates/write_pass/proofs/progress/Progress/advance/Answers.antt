-- What the plan says is what is put.
use Rattle.laws.proofs.Bytes.{length_part}
use Rattle.write_pass.proofs.Stepping.{stays_sound, zeros_put, value_put}
use Rattle.write_pass.proofs.progress.Progress.advance.Goals as goal

pub past-requires : goal.past-requires
past-requires c =
    let plan = rw c.in-Set.is at c.in_ok-plan_of.ensures in
    rw c.set.ensures (stays_sound c.args.self.place c.args.op.op c.args.op.valid plan.says)

pub returns-in-Zeros-clause-bytes : goal.returns-in-Zeros-clause-bytes
returns-in-Zeros-clause-bytes c =
    let plan = rw c.in-Zeros.is at c.in_ok-plan_of.ensures in
    zeros_put c.args.put c.args.out.now c.args.w plan.says c.emit_zeros.ensures

pub returns-in-Number-clause-bytes : goal.returns-in-Number-clause-bytes
returns-in-Number-clause-bytes c =
    let plan = rw c.in-Number.is at c.in_ok-plan_of.ensures in
    value_put c.args.put c.args.out.now c.args.w plan.says c.emit_number.ensures

pub returns-in-Text-clause-bytes : goal.returns-in-Text-clause-bytes
returns-in-Text-clause-bytes c =
    let plan = rw c.in-Text.is at c.in_ok-plan_of.ensures in
    let long = length_part _ _ _ plan.says.within in
    value_put c.args.put c.args.out.now c.args.w plan.says.wrote (rw (c.bytes.ensures, long) at c.emit_text.ensures)

pub returns-in-Counted-clause-bytes : goal.returns-in-Counted-clause-bytes
returns-in-Counted-clause-bytes c =
    let plan = rw c.in-Counted.is at c.in_ok-plan_of.ensures in
    let long = length_part _ _ _ plan.says.within in
    value_put c.args.put c.args.out.now c.args.w plan.says.wrote (rw (c.bytes-in-Counted.ensures, long) at c.emit_counted.ensures)
