-- What stands at the offset is a text, another value, or nothing.
use Rattle.laws.proofs.Exits.{exit_is}
use Rattle.plan.proofs.Texts.{text_none, text_other}
use Rattle.plan.proofs.text.Text.at.Goals as goal

pub returns-in_err-value : goal.returns-in_err-value
returns-in_err-value c =
    rw (exit_is c.from_residual.ensures.1) (text_none c.args.reader (rw c.in_err-value.ensures.ok_part at c.field.ensures) (rw c.in_err-value.ensures.ok_part at c.in_err-value.ensures.value))

pub returns-in_default : goal.returns-in_default
returns-in_default c = text_other c.args.reader (rw c.in_ok-value.ensures.ok_part at c.field.ensures) c.in_default.not-Text
