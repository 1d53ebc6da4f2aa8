-- What is written is the label, the number in decimal and the line's end.
use Rattle.std.proofs.Common.{◌<◌, ◌^◌, arith}
use Rattle.std.proofs.Output.{has_written_of_eq}
use Rattle.line.proofs.Decimals.{decimal_is}
use Rattle.line.proofs.AnswerDisplay.fmt.Goals as goal

pub returns-in-Ok-clause-writes : goal.returns-in-Ok-clause-writes
returns-in-Ok-clause-writes g c =
    let fits : c.in-Ok.n < 2 ^ 64 = omega arith in
    λ plain ok. has_written_of_eq _ _ _ _ _ (rw (c.in-Ok.is, decimal_is c.in-Ok.n fits)) (c.writeln.ensures.writes plain ok)

pub returns-in-Err-clause-writes : goal.returns-in-Err-clause-writes
returns-in-Err-clause-writes g c =
    λ plain ok. has_written_of_eq _ _ _ _ _ (rw (c.in-Err.is, ← c.number.ensures, decimal_is c.number.result (omega arith))) (c.writeln-in-Err.ensures.writes plain ok)
