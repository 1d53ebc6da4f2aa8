-- What a place in a value list says in the definition's terms.
use Rattle.std.specs.Prelude.{ℕ, List, [], drop}
use Rattle.definition.specs.Answers.{Checked, refused, accepted}
use Rattle.definition.specs.Values.{Value}
use Rattle.definition.specs.Lists.{values}
use Rattle.definition.specs.Writing as writing
use Rattle.values.specs.declared.reader.Reader.{Reader}
use Rattle.plan.specs.declared.place.Place.{Place}

-- the values of a list, which is well formed
abbrev pub listed : Checked (List Value) → List Value
listed (refused k) = []
listed (accepted vs) = vs

abbrev pub values_of : List ℕ → List Value
values_of l = listed (values l)

-- the values from a field of the list on
abbrev pub left_of : Reader → List Value
left_of r = values_of (drop r.at r.list.now)

-- the list that a place takes its values from
abbrev pub list_of : Place → List ℕ
list_of at = at.reader.list.now

-- its state with the values that are left
abbrev pub place_of : Place → writing.Place Value
place_of at = writing.place at.state (left_of at.reader)
