-- `get_unsigned` meets its contract: the number of the low bytes, where those above are zeros.
use Rattle.load.proofs.Gathering.{unsigned_fits, unsigned_too_wide}
use Rattle.load.proofs.get_unsigned.Goals as goal

pub returns-then-is_filled : goal.returns-then-is_filled
returns-then-is_filled c = unsigned_fits _ _ c.get_word.ensures.0 c.is_filled.ensures c.if-is_filled.true

pub returns-else-is_filled : goal.returns-else-is_filled
returns-else-is_filled c = unsigned_too_wide _ _ c.is_filled.ensures c.if-is_filled.false
