-- What the two passes over a format say, in the definition's terms.
use Rattle.std.specs.Prelude.{ℕ, ◌+◌, ◌≤◌, ◌≡◌, List, ◌++◌, length, drop, Result, Ok, Err}
use Rattle.definition.specs.Answers.{Checked, refused, accepted}
use Rattle.definition.specs.Refusals.{refusal_number}
use Rattle.definition.specs.Options.{Table}
use Rattle.definition.specs.Ops.{ops}
use Rattle.definition.specs.Values.{Value}
use Rattle.definition.specs.Lists.{list_of}
use Rattle.definition.specs.Writing.{Place}
use Rattle.definition.specs.Reading.{offset_in}
use Rattle.laws.proofs.Traces.{reading_values}
use Rattle.definition.specs.declared.State.{State}
use Rattle.definition.specs.declared.Offset.{Offset}
use Rattle.definition.specs.declared.Refusal.{Refusal}
use Rattle.align.specs.Amounts.{SameTo63}
use Rattle.decode.specs.Readings.{Within}
use Rattle.fetch.specs.Fetching.{place_in}
use Rattle.decode.specs.declared.Reading.{Reading}
use Rattle.decode.specs.declared.Reading.TheVariants.{Integer, Float, Text}
use Rattle.read_pass.specs.declared.Total.{Total}

-- what reading the format f, by the table t, in the data d from a state gives
abbrev pub read_at : Table → List ℕ → List ℕ → State → Checked (Place ℕ × List Value)
read_at t f d s = reading_values (place_in d s) (ops t f)

-- ---- lengths

-- the length of the field of a value
abbrev pub size_of : Reading → ℕ
size_of (Integer z) = 11
size_of (Float b) = 11
size_of (Text t) = 3 + t.size

-- ---- the first pass

-- reading gives values whose list has the length n, and ends at an offset of d
pub record Reads (d : List ℕ) (w : Checked (Place ℕ × List Value)) (n : ℕ) (o : Offset) : Type 0 where
  pub next : Place ℕ
  pub values : List Value
  pub accepts : w ≡ accepted (next, values)
  pub counts : SameTo63 n (length (list_of values))
  pub ends : o ≡ offset_in next.state
  pub inside : Within d o

abbrev pub Totals : List ℕ → Checked (Place ℕ × List Value) → Result Total Refusal → Type 0
Totals d w (Ok t) = Reads d w t.length t.next
Totals d w (Err r) = w ≡ refused (refusal_number r)

abbrev pub Checks : Table → List ℕ → List ℕ → State → Result Total Refusal → Type 0
Checks t f d s r = Totals d (read_at t f d s) r

-- ---- the second pass

-- reading gives values whose list is at most as long as b
pub record Fits (t : Table) (f d : List ℕ) (s : State) (b : List ℕ) : Type 0 where
  pub next : Place ℕ
  pub values : List Value
  pub accepts : read_at t f d s ≡ accepted (next, values)
  pub room : length (list_of values) ≤ length b

-- b with the list of the values that were read at its front
abbrev pub list_into : List ℕ → Checked (Place ℕ × List Value) → List ℕ
list_into b (refused k) = b
list_into b (accepted r) = list_of r.1 ++ drop (length (list_of r.1)) b

abbrev pub list_after : Table → List ℕ → List ℕ → State → List ℕ → List ℕ
list_after t f d s b = list_into b (read_at t f d s)
