-- The byte has its entry, and what follows it its operand.
use Rattle.std.proofs.Common.{◌+◌, length-drop, sym, arith}
use Rattle.laws.proofs.Exits.{exit_is}
use Rattle.format.proofs.Cursors.{next_end, next_step}
use Rattle.format.proofs.Walking.{valid}
use Rattle.operand.proofs.Operands.{operand_count}
use Rattle.format.proofs.cursor.Cursor.next.Goals as goal

pub returns-in_default : goal.returns-in_default
returns-in_default c = next_end _ _ _ c.in_default.ensures.lookup.3

pub returns-in_err-x : goal.returns-in_err-x
returns-in_err-x c =
    rw (exit_is c.from_residual.ensures.1) (next_step _ c.args.table.now.sizes _ _ _ c.in-Some.ensures.lookup.3 _ c.entry-entry.ensures _ c.in_err-x.ensures)

pub overflow_add-result : goal.overflow_add-result
overflow_add-result c =
    omega (arith, c.in-Some.ensures.lookup.3.0, operand_count _ _ _ _ _ (sym c.in_ok-x.ensures), length-drop (c.args.self.at + 1) c.args.format.now)

pub returns : goal.returns
returns c = next_step _ c.args.table.now.sizes _ _ _ c.in-Some.ensures.lookup.3 _ c.entry-entry.ensures _ c.in_ok-x.ensures

pub invariant_of-item : goal.invariant_of-item
invariant_of-item c =
    let sizes = c.args.table.now.sizes in
    record { valid = valid _ _ _ (sym (next_step _ sizes _ _ _ c.in-Some.ensures.lookup.3 _ c.entry-entry.ensures _ c.in_ok-x.ensures)) sizes }
