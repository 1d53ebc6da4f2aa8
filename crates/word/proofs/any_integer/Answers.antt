-- The integer's bits, or 12.
use Rattle.std.proofs.Common.{sym, ◌∙◌, arith}
use Rattle.laws.proofs.Exits.{exit_is}
use Rattle.word.proofs.Words.{says_integer, says_refused, small_is}
use Rattle.word.proofs.any_integer.Goals as goal

pub returns-in_err-z : goal.returns-in_err-z
returns-in_err-z c =
    λ l n. rw (exit_is c.from_residual.ensures.1) (says_refused n _ (small_is n _ ∙ sym (c.in_err-z.ensures l)))

pub returns : goal.returns
returns c = λ l n. says_integer n _ _ (omega arith) c.to_word.ensures (small_is n _ ∙ sym (c.in_ok-z.ensures l))
