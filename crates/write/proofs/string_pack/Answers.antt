-- Continued writing from the start state, with the record's length for an answer.
use Rattle.laws.proofs.Exits.{exit_is}
use Rattle.write.proofs.Calls.{plain_call}
use Rattle.write.proofs.string_pack.Goals as goal

pub returns-in_err-total : goal.returns-in_err-total
returns-in_err-total c =
    rw (exit_is c.from_residual.ensures.1) (plain_call _ _ _ _ c.start.ensures (rw c.in_err-total.was at c.pack_continued.ensures))

pub returns : goal.returns
returns c = plain_call _ _ _ _ c.start.ensures c.in_ok-total.ensures
