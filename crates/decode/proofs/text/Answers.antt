-- `text` meets its contract: 17 where the data end, 20 above 65,535 bytes, else the text.
use Rattle.laws.proofs.Exits.{exit_is}
use Rattle.decode.proofs.Rests.{past_taken}
use Rattle.decode.proofs.Texts.{chars_ended, chars_by}
use Rattle.decode.proofs.text.Goals as goal

pub returns-in_err-past : goal.returns-in_err-past
returns-in_err-past c = λ o. rw (exit_is c.from_residual.ensures.1) (chars_ended _ _ _ o c.in_err-past.ensures)

pub returns : goal.returns
returns c = λ o. chars_by _ _ _ o (past_taken c.args.rest.within c.in_ok-past.ensures).fits c.text_of.ensures
