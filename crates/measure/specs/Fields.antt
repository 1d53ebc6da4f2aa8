-- The clause of measuring for a field, by itself.
use Rattle.definition.specs.Answers.{Checked, ◌>>=◌}
use Rattle.definition.specs.States.{natural}
use Rattle.definition.specs.Measuring.{size_of, measure_pad}
use Rattle.definition.specs.declared.State.{State}
use Rattle.definition.specs.declared.Field.{Field}

abbrev pub measure_field : State → Field → Checked State
measure_field s f = size_of f >>= measure_pad s (natural f)
