-- The clauses of the list bound for a field and for padding, by themselves; of a field by its alignment and what it adds.
use Rattle.std.specs.Prelude.{ℕ}
use Rattle.definition.specs.Answers.{Checked, accepted, ◌>>◌}
use Rattle.definition.specs.States.{natural, alignment, longer}
use Rattle.definition.specs.Bound.{most}
use Rattle.definition.specs.declared.State.{State}
use Rattle.definition.specs.declared.Field.{Field}

abbrev pub bound_aligned : State → ℕ → ℕ → Checked State
bound_aligned s a n = alignment s a >> longer s n

abbrev pub bound_field : ℕ → State → Field → Checked State
bound_field d s f = bound_aligned s (natural f) (most d f)

abbrev pub bound_pad : State → ℕ → Checked State
bound_pad s n = alignment s n >> accepted s
