-- The measure is the number of bytes that follow the option.
use Rattle.std.proofs.Common.{length}
use Rattle.operand.proofs.+operand_of.Given as goal

abbrev pub decreases-operand_of : goal.decreases-operand_of
decreases-operand_of l = length l.rest.now
