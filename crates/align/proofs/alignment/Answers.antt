-- By whether the lesser number is a power of two.
use Rattle.definition.specs.States.{alignment}
use Rattle.align.proofs.alignment.Goals as goal

pub returns-then-is_power : goal.returns-then-is_power
unfolding alignment
returns-then-is_power c =
    rw (← c.limited-a.ensures, ← c.is_power.ensures, c.if-is_power.true)

pub returns-else-is_power : goal.returns-else-is_power
unfolding alignment
returns-else-is_power c =
    rw (← c.limited-a.ensures, ← c.is_power.ensures, c.if-is_power.false)
