-- The limit is tested first, then the length.
use Rattle.std.proofs.Common.{sym, ◌∙◌}
use Rattle.align.proofs.is_sound.Goals as goal

pub returns-then-is_power : goal.returns-then-is_power
returns-then-is_power c =
    rw (sym c.is_power.ensures ∙ c.if-is_power.true)

pub returns-else-is_power : goal.returns-else-is_power
returns-else-is_power c =
    rw (sym c.is_power.ensures ∙ c.if-is_power.false, c.if-is_power.false)
