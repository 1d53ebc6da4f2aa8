-- At each step, what the front says one blank or setting further on.
use Rattle.std.proofs.Common.{◌≡◌, sym, ap, ◌∙◌, refl, arith, drop}
use Rattle.std.proofs.Math.Option.{some}
use Rattle.std.specs.Prelude.{Option, Some, None, Result, Ok, Err}
use Rattle.std.specs.Result.{result_unwrap_or}
use Rattle.definition.specs.Answers.{accepted}
use Rattle.definition.specs.Refusals.{answer_by}
use Rattle.definition.specs.declared.Op.{Op}
use Rattle.definition.specs.declared.Refusal.{Refusal}
use Rattle.options.specs.Packed.{table_at}
use Rattle.format.specs.Ops.{op_at}
use Rattle.format.specs.Steps.{next_of, next_at}
use Rattle.format.specs.declared.item.ValidItem.{ValidItem}
use Rattle.format.specs.declared.cursor.Cursor.{Cursor}
use Rattle.format.proofs.Walking.{ahead}
use Rattle.front.proofs.Going.{leads_blank, leads_set}
use Rattle.front.proofs.settings.Goals as goal
use Rattle.front.proofs.settings.Goals.{After-op}

-- what the cursor read, where it read an item
was_read : (x : Result (Option (ValidItem × Cursor)) Refusal) (y : ValidItem × Cursor) → Some y ≡ result_unwrap_or x None → answer_by next_of x ≡ accepted (some (op_at y.0.item.entry y.0.item.operand, y.1.at))
was_read (Ok o) y e = ap (λ (x : Option (ValidItem × Cursor)). accepted (next_of x)) (sym e)
was_read (Err r) y e = cc

-- the item that the cursor read does x
item : (c : After-op) {x : Op} → c.op.result.op ≡ x → next_at (table_at c.args.table.now.entries) c.loop-item.c.at (drop c.loop-item.c.at c.args.format.now) ≡ accepted (some (x, c.in-Some.next.at))
item c e =
    sym c.next.ensures ∙ was_read c.next.result (c.in-Some.item, c.in-Some.next) c.in-Some.ensures ∙ ap (λ (x : Op). accepted (some (x, c.in-Some.next.at))) (sym c.op.ensures ∙ e)

pub loop-item-smaller-in-Blank : goal.loop-item-smaller-in-Blank
loop-item-smaller-in-Blank c = omega (arith, ahead _ _ _ (item (goal.at.loop-item-smaller-in-Blank c).After-op refl))

pub loop-item-preserved-in-Blank : goal.loop-item-preserved-in-Blank
loop-item-preserved-in-Blank c = leads_blank c.loop-item.invariant (item (goal.at.loop-item-preserved-in-Blank c).After-op c.in-Blank.is)

pub loop-item-smaller : goal.loop-item-smaller
loop-item-smaller c = omega (arith, ahead _ _ _ (item (goal.at.loop-item-smaller c).After-op refl))

pub loop-item-preserved : goal.loop-item-preserved
loop-item-preserved c = leads_set c.loop-item.invariant (item (goal.at.loop-item-preserved c).After-op c.in-Set.is) c.args.table.now.sizes c.set-s.ensures
