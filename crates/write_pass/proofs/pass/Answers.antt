-- At each step, what the walk over the items says there.
use Rattle.std.proofs.Common.{◌≡◌, sym, ◌∙◌, refl, rules, arith, drop}
use Rattle.std.proofs.Math.Option.{some}
use Rattle.laws.proofs.Exits.{exit_is}
use Rattle.definition.specs.Answers.{accepted}
use Rattle.options.specs.Packed.{table_at}
use Rattle.format.specs.Steps.{next_at}
use Rattle.write_pass.proofs.Walking.{passing_none, passing_end, passing_refusal, passing_refused, passing_fits, passing_skipped, passing_moved, item_ahead}
use Rattle.write_pass.proofs.pass.Goals as goal
use Rattle.write_pass.proofs.pass.Goals.{After-op}

-- the item that the cursor read
item : (c : After-op) → next_at (table_at c.args.table.now.entries) c.loop-item.c.at (drop c.loop-item.c.at c.args.format.now) ≡ accepted (some (c.op.result.op, c.in-Some.next.at))
item c = sym c.in_ok-item.ensures ∙ rw (c.in-Some.is, c.op.ensures) refl

pub loop-item-init : goal.loop-item-init
loop-item-init c = (passing_none _ _ _ _ _ _ c.new-c.ensures, refl)

pub returns : goal.returns
returns c =
    let e = passing_end c.loop-item.invariant.0 (sym c.in_ok-item.ensures ∙ rw c.in_default.is refl) in record { total = e.0; bytes = e.1 }

pub returns-in_err-item : goal.returns-in_err-item
returns-in_err-item c =
    let e = passing_refusal c.loop-item.invariant.0 c.requires (sym c.in_err-item.ensures) in
    record { total = rw (exit_is c.from_residual.ensures.1) e.0; bytes = e.1 }

pub advance-requires : goal.advance-requires
advance-requires c = passing_fits c.loop-item.invariant.0 c.requires (item (goal.at.advance-requires c).After-op) c.loop-item.invariant.1

pub returns-in_err-q : goal.returns-in_err-q
returns-in_err-q c =
    let e = passing_refused c.loop-item.invariant.0 c.requires (item (goal.at.returns-in_err-q c).After-op) _ c.in_err-q.ensures.step c.in_err-q.ensures.bytes in
    record { total = rw (exit_is c.from_residual-in_err-q.ensures.1) e.0; bytes = e.1 }

pub loop-item-smaller : goal.loop-item-smaller
loop-item-smaller c = omega (arith, item_ahead c.loop-item.invariant.0 (item (goal.at.loop-item-smaller c).After-op))

pub loop-item-preserved : goal.loop-item-preserved
loop-item-preserved c =
    let step = rw c.in_default-2.is at c.in_ok-q.ensures.step in
    (passing_skipped c.loop-item.invariant.0 (item (goal.at.loop-item-preserved c).After-op) step c.in_ok-q.ensures.bytes, search rules)

pub loop-item-smaller-in-Some-2 : goal.loop-item-smaller-in-Some-2
loop-item-smaller-in-Some-2 c = omega (arith, item_ahead c.loop-item.invariant.0 (item (goal.at.loop-item-smaller-in-Some-2 c).After-op))

pub loop-item-preserved-in-Some-2 : goal.loop-item-preserved-in-Some-2
loop-item-preserved-in-Some-2 c =
    let step = rw c.in-Some-2.is at c.in_ok-q.ensures.step in
    (passing_moved c.loop-item.invariant.0 (item (goal.at.loop-item-preserved-in-Some-2 c).After-op) refl refl step c.in_ok-q.ensures.bytes, search rules)
