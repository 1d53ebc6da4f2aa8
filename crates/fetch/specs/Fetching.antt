-- What an item does in reading, in the definition's terms.
use Rattle.std.specs.Prelude.{ℕ, ◌+◌, ◌≡◌, List, [], ◌∷◌, Result, IfOk}
use Rattle.definition.specs.Refusals.{answer_by}
use Rattle.definition.specs.Values.{Value}
use Rattle.definition.specs.Writing.{Place, place}
use Rattle.definition.specs.Reading.{offset, offset_in, at_offset, read_pad}
use Rattle.laws.proofs.Ops.{Limited}
use Rattle.laws.proofs.Traces.{read_value}
use Rattle.definition.specs.declared.State.{State}
use Rattle.definition.specs.declared.Offset.{Offset}
use Rattle.definition.specs.declared.Op.{Op}
use Rattle.definition.specs.declared.Refusal.{Refusal}
use Rattle.decode.specs.declared.rest.Rest.{Rest}
use Rattle.decode.specs.declared.Decoded.{Decoded}
use Rattle.fetch.specs.declared.Fetched.{Fetched}
use Rattle.decode.specs.Readings.{from, Within, value_of, Inside}

-- a state in the data d, its limit a power of two
abbrev pub Stands : List ℕ → State → Type 0
Stands d s = Within d (offset_in s) × Limited s

-- the place in d at a state
abbrev pub place_in : List ℕ → State → Place ℕ
place_in d s = place s (from d (offset_in s))

-- r is the rest of d past an alignment by n, and k bytes
pub record Skips (d : List ℕ) (s : State) (n k : ℕ) (r : Result Rest Refusal) : Type 0 where
  pub says : answer_by (λ (x : Rest). place_in d (at_offset s x.at)) r ≡ read_pad (place_in d s) n k
  pub kept : IfOk r (λ x. x.data.now ≡ d)

-- what is decoded at an offset, and the offset after it
abbrev pub after_of : Offset → Decoded → Fetched
after_of at x = Fetched.Read x.reading (offset (at.0 + x.size))

abbrev pub fetched_in : List ℕ → State → Fetched → Place ℕ × List Value
fetched_in d s (Fetched.Set t) = (place_in d t, [])
fetched_in d s (Fetched.Read r o) = (place_in d (at_offset s o), value_of d r ∷ [])

abbrev pub FetchedStands : List ℕ → Fetched → Type 0
FetchedStands d (Fetched.Set t) = Stands d t
FetchedStands d (Fetched.Read r o) = Within d o × Inside d r

-- r is what an item does at the place in d
pub record Fetches (d : List ℕ) (s : State) (o : Op) (r : Result Fetched Refusal) : Type 0 where
  pub says : answer_by (fetched_in d s) r ≡ read_value (place_in d s) o
  pub stands : IfOk r (FetchedStands d)
