-- Behind X an option with a numeral is asked for its own operand, with one byte less to look at.
use Rattle.std.proofs.Common.{◌-◌, length, drop, length-take, sym, ap, ◌∙◌, arith}
use Rattle.laws.proofs.Exits.{exit_is}
use Rattle.operand.specs.Operands.{operand_at, one_more}
use Rattle.options.specs.Packed.{entry_at, table_at}
use Rattle.operand.proofs.Operands.{operand_none, operand_x, operand_count}
use Rattle.numeral.proofs.Digits.{part_rest}
use Rattle.operand.proofs.+operand_of.Goals as goal

pub returns : goal.returns
returns t c = operand_none _ _ c.if-e-lt-ALIGN_END.false _

pub returns-in_err-x : goal.returns-in_err-x
returns-in_err-x t c =
    rw (exit_is c.from_residual.ensures.1) (c.in_err-x.ensures.same ∙ operand_x _ _ c.if-e-lt-LIMIT_END.false c.if-e-lt-ALIGN_END.true _)

pub returns-in-By : goal.returns-in-By
returns-in-By t c =
    rw c.in-By.is at c.in_ok-x.ensures.same ∙ operand_x _ _ c.if-e-lt-LIMIT_END.false c.if-e-lt-ALIGN_END.true _

pub overflow_add-result : goal.overflow_add-result
overflow_add-result t c =
    omega (arith, operand_count _ _ _ _ _ (sym c.in_ok-x-in-Numeral.ensures), length-take (length c.args.rest.now - 1) (drop 1 c.args.rest.now))

pub returns-in_err-x-in-Numeral : goal.returns-in_err-x-in-Numeral
returns-in_err-x-in-Numeral t c =
    let s = c.args.rest.now in
    let own = c.in_err-x-in-Numeral.ensures ∙ ap (operand_at (table_at c.args.table.now.entries) (entry_at c.in-Numeral.option.entry)) (part_rest 1 s) in
    rw (exit_is c.from_residual-in_err-x-in-Numeral.ensures.1) (ap one_more own ∙ rw c.in-Numeral.is at c.in_ok-x.ensures.same ∙ operand_x _ _ c.if-e-lt-LIMIT_END.false c.if-e-lt-ALIGN_END.true _)

pub returns-in_ok-x-in-Numeral : goal.returns-in_ok-x-in-Numeral
returns-in_ok-x-in-Numeral t c =
    let s = c.args.rest.now in
    let own = c.in_ok-x-in-Numeral.ensures ∙ ap (operand_at (table_at c.args.table.now.entries) (entry_at c.in-Numeral.option.entry)) (part_rest 1 s) in
    ap one_more own ∙ rw c.in-Numeral.is at c.in_ok-x.ensures.same ∙ operand_x _ _ c.if-e-lt-LIMIT_END.false c.if-e-lt-ALIGN_END.true _
