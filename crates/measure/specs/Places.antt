-- What a place says in the terms of the definition.
use Rattle.definition.specs.declared.State.{State}
use Rattle.measure.specs.declared.Place.{Place}

abbrev pub state_of : Place → State
state_of p = p.state
