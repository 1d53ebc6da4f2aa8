-- The operand is the one by what the digits are read as.
use Rattle.std.proofs.Common.{ap, ◌∙◌, refl, Some, None, Ok, Err}
use Rattle.laws.proofs.Exits.{exit_is}
use Rattle.operand.specs.Operands.{taking}
use Rattle.operand.proofs.Numerals.{by_read_is, refused_read}
use Rattle.operand.proofs.by_numeral.Goals as goal

pub returns-in_err-numeral : goal.returns-in_err-numeral
returns-in_err-numeral c =
    λ t. rw (exit_is c.from_residual.ensures.1) (refused_read t _ c.args.option.low c.args.option.high _ (Err _) _ refl c.in_err-numeral.ensures)

pub returns-in_err-without_numeral-in-None : goal.returns-in_err-without_numeral-in-None
returns-in_err-without_numeral-in-None c =
    let q = rw c.in-None.is at c.in_ok-numeral.ensures in
    λ t. rw (exit_is c.from_residual-in_err-without_numeral-in-None.ensures.1) (ap (taking 0) c.in_err-without_numeral-in-None.ensures ∙ by_read_is t _ c.args.option.low c.args.option.high _ (Ok None) q)

pub returns-in_err-with_numeral-in-Some : goal.returns-in_err-with_numeral-in-Some
returns-in_err-with_numeral-in-Some c =
    let q = rw c.in-Some.is at c.in_ok-numeral.ensures in
    λ t. rw (exit_is c.from_residual-in_err-with_numeral-in-Some.ensures.1) (ap (taking c.in-Some.n.end) c.in_err-with_numeral-in-Some.ensures ∙ by_read_is t _ c.args.option.low c.args.option.high _ (Ok (Some _)) q)

pub returns-in_ok-without_numeral-in-None : goal.returns-in_ok-without_numeral-in-None
returns-in_ok-without_numeral-in-None c =
    let q = rw c.in-None.is at c.in_ok-numeral.ensures in
    λ t. ap (taking 0) c.in_ok-without_numeral-in-None.ensures ∙ by_read_is t _ c.args.option.low c.args.option.high _ (Ok None) q

pub returns-in_ok-with_numeral-in-Some : goal.returns-in_ok-with_numeral-in-Some
returns-in_ok-with_numeral-in-Some c =
    let q = rw c.in-Some.is at c.in_ok-numeral.ensures in
    λ t. ap (taking c.in-Some.n.end) c.in_ok-with_numeral-in-Some.ensures ∙ by_read_is t _ c.args.option.low c.args.option.high _ (Ok (Some _)) q
