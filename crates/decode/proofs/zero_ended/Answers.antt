-- `zero_ended` meets its contract: 19 without a zero, 20 above 65,535 bytes, else the text before it.
use mathlib.Core.Path.{sym, ◌∙◌}
use Rattle.laws.proofs.Exits.{exit_is}
use Rattle.decode.proofs.Numbers.{none_of}
use Rattle.decode.proofs.Texts.{zero_missing, zero_by}
use Rattle.decode.proofs.zero_ended.Goals as goal

pub returns-in_err-n : goal.returns-in_err-n
returns-in_err-n c = λ o.
    let n = none_of c.in_err-n.ensures.value in
    rw (exit_is c.from_residual.ensures.1, n.1) (zero_missing c.args.rest.data.now c.args.rest.at o (sym c.first_zero.ensures ∙ n.0))

pub returns : goal.returns
returns c = λ o. zero_by c.args.rest.data.now c.args.rest.at o _ (sym c.first_zero.ensures ∙ c.in_ok-n.ensures.ok_part) c.text_of.ensures
