-- Two bytes hold all that a pair can say.
use native.Mathlib.Omega.{arith}
use mathlib.Core.Path.{sym, ◌∙◌}
use borrow.Author.Tests.{le-leb, lt-ltb}
use Rattle.laws.proofs.Bytes.{pow_le}
use Rattle.range.proofs.most_counted.Goals as goal

pub returns-else-size-lt2 : goal.returns-else-size-lt2
returns-else-size-lt2 c m h = lt-ltb m _ (omega (arith, h, pow_le 2 c.args.size.bytes (omega arith))) ∙ sym (le-leb m 65535 (omega arith))
