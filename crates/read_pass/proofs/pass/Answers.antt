-- What the cursor's answer and the item's say of the pass.
use Prim.Native.Nat.{◌<◌, ◌≤◌}
use native.Mathlib.Omega.{arith}
use mathlib.Core.Path.{◌≡◌, refl, sym, ◌∙◌}
use mathlib.Core.Option.{some}
use lib.ListN.{length, drop}
use Rattle.laws.proofs.Exits.{exit_is}
use Rattle.definition.specs.Answers.{accepted}
use Rattle.format.specs.Steps.{next_at}
use Rattle.options.specs.Packed.{table_at}
use Rattle.format.proofs.Walking.{ahead}
use Rattle.read_pass.proofs.Passing.{passing_none, passing_end, passing_refusal, passing_refused, passing_set, passing_room, passing_put, passing_kept, passing_more}
use Rattle.read_pass.proofs.pass.Goals as goal
use Rattle.read_pass.proofs.pass.Goals.{After-op, then-put, else-put}

-- the item that the cursor read
item : (c : After-op) → next_at (table_at c.args.table.now.entries) c.loop-item.c.at (drop c.loop-item.c.at c.args.format.now) ≡ accepted (some (c.op.result.op, c.in-Some.next.at))
item c = sym (rw (c.in-Some.is, ← c.op.ensures) at c.in_ok-item.ensures)

-- the next item stands further on
onward : (c : After-op) → (c.loop-item.c.at < c.in-Some.next.at) × (c.in-Some.next.at ≤ length c.args.format.now)
onward c = ahead (table_at c.args.table.now.entries) c.args.format.now c.loop-item.c.at (item c)

pub loop-item-init : goal.loop-item-init
loop-item-init c = passing_none _ c.requires c.new-c.ensures (c.args.start.within, c.args.start.limited)

pub returns-in_err-item : goal.returns-in_err-item
returns-in_err-item c =
    let r = passing_refusal c.loop-item.invariant (sym c.in_err-item.ensures) in
    record { total = rw (exit_is c.from_residual.ensures.1) r.0; list = r.1 }

pub returns-in_err-t : goal.returns-in_err-t
returns-in_err-t c =
    let r = passing_refused c.loop-item.invariant (item (goal.at.returns-in_err-t c).After-op) c.in_err-t.ensures in
    record { total = rw (exit_is c.from_residual-in_err-t.ensures.1) r.0; list = r.1 }

pub loop-item-smaller-in-Set : goal.loop-item-smaller-in-Set
loop-item-smaller-in-Set c = omega (arith, onward (goal.at.loop-item-smaller-in-Set c).After-op)

pub loop-item-preserved-in-Set : goal.loop-item-preserved-in-Set
loop-item-preserved-in-Set c =
    passing_set c.loop-item.invariant (item (goal.at.loop-item-preserved-in-Set c).After-op) (rw c.in-Set.is at c.in_ok-t.ensures) refl

pub put_reading-requires-clause-room : goal.put_reading-requires-clause-room
put_reading-requires-clause-room c =
    (passing_room c.loop-item.invariant (item (goal.at.put_reading-requires-clause-room c).After-op) (rw c.in-Read.is at c.in_ok-t.ensures) c.if-put.true (omega arith) _ refl).0

pub loop-item-smaller : goal.loop-item-smaller
loop-item-smaller c = omega (arith, onward (goal.at.loop-item-smaller c).After-op)

pub loop-item-preserved : goal.loop-item-preserved
loop-item-preserved c =
    let o = item (goal.at.loop-item-preserved c).After-op in
    let g = rw c.in-Read.is at c.in_ok-t.ensures in
    let h = c.loop-item.invariant in
    passing_more h o g
    (elim c.if-put.branch [
      | then-put w ↦ w.list-is ∙ passing_put h o g w.if-put.true (omega arith) _ _ (omega arith) w.put_reading.ensures
      | else-put w ↦ w.list-is ∙ passing_kept h o g w.if-put.false
    ])
    c.size_of.ensures.0
    c.sum-total.ensures
    c.at_offset-s.ensures

pub returns : goal.returns
returns c =
    let r = passing_end c.loop-item.invariant c.offset_in.ensures (sym (rw c.in_default.is at c.in_ok-item.ensures)) in record { total = r.0; list = r.1 }
