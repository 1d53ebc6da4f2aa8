-- `sign_byte` meets its contract: each arm is a case of `sign`.
use Rattle.std.proofs.Common.{sym, ap}
use Rattle.definition.specs.Bytes.{sign}
use Rattle.words.proofs.Twos.{negative, positive}
use Rattle.words.proofs.sign_byte.Goals as goal

pub returns-then-x-lt0 : goal.returns-then-x-lt0
returns-then-x-lt0 c =
    sym (ap sign (negative c.args.x c.ranges.x c.if-x-lt0.true))

pub returns-else-x-lt0 : goal.returns-else-x-lt0
returns-else-x-lt0 c =
    sym (ap sign (positive c.args.x c.ranges.x c.if-x-lt0.false))
