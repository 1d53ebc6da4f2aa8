-- What an accepted writing put out and what it took, of a format f and a value list l; nothing of a refused one.
use Rattle.std.specs.Prelude.{ℕ, List, map}
use Rattle.definition.specs.Answers.{Checked, refused, accepted}
use Rattle.definition.specs.Values.{Value}
use Rattle.definition.specs.Lists.{list_of}
use Rattle.definition.specs.States.{start}
use Rattle.definition.specs.Fields.{kept}
use Rattle.definition.specs.Writing.{Place, Output, nothing}
use Rattle.definition.specs.Calls.{pack}
use Rattle.definition.specs.declared.State.{State}
use Rattle.definition.specs.declared.Field.{Field}

-- what writing f with the values of l puts out
abbrev pub output_of : Checked (Place Value × Output) → Output
output_of (refused k) = nothing
output_of (accepted r) = r.1

abbrev pub written_from : State → List ℕ → List ℕ → Output
written_from s f l = output_of (pack s f l)

abbrev pub written : List ℕ → List ℕ → Output
written f l = written_from start f l

-- "document 01's kept values", as the list that reading gives
abbrev pub keep : Field × Value → Value
keep t = kept t.0 t.1

abbrev pub kept_from : State → List ℕ → List ℕ → List ℕ
kept_from s f l = list_of (map keep (written_from s f l).took)

abbrev pub kept_list : List ℕ → List ℕ → List ℕ
kept_list f l = kept_from start f l
