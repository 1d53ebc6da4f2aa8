-- What a place says in the terms of the definition.
use Rattle.std.specs.Prelude.{ℕ}
use Rattle.definition.specs.States.{state}
use Rattle.definition.specs.declared.State.{State}
use Rattle.lengths.specs.Lengths as Lengths
use Rattle.lengths.specs.Lengths.{places}
use Rattle.range.specs.declared.Place.{Place}

-- a state with another length
abbrev pub with_length : State → ℕ → State
with_length s n = state s.big s.limit n

abbrev pub places_of : Place → Lengths.Places
places_of p = places (with_length p.greatest p.least) p.greatest p.pairs.now
