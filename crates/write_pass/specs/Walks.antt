-- How far a pass over a format has come, and what it has put.
use Rattle.std.specs.Prelude.{ℕ, ◌+◌, ◌≤◌, ◌≡◌, List, length, drop, Option, None, Some, Result, Ok, Err}
use Rattle.std.proofs.Math.Seq.{paste}
use Rattle.definition.specs.Answers.{Checked, refused, accepted, ◌>>=◌}
use Rattle.definition.specs.Options.{Table}
use Rattle.definition.specs.Refusals.{refusal_number}
use Rattle.definition.specs.Values.{Value}
use Rattle.definition.specs.Writing.{Output, Place, nothing, place, write}
use Rattle.definition.specs.Calls.{record_of, continued_of}
use Rattle.definition.specs.declared.Continued.{Continued}
use Rattle.definition.specs.declared.State.{State}
use Rattle.definition.specs.declared.Op.{Op}
use Rattle.definition.specs.declared.Refusal.{Refusal}
use Rattle.plan.specs.Places.{values_of, left_of, list_of, place_of}
use Rattle.plan.specs.Plans.{wrote}
use Rattle.plan.specs.declared.place.Place as code
use Rattle.write_pass.specs.declared.progress.Progress.{Progress}

-- writing a format at a place
abbrev pub whole : Table → code.Place → List ℕ → Checked (Place Value × Output)
whole t at f = write t at.state (left_of at.reader) f

-- what continued writing answers of a run
abbrev pub summed : Checked (Place Value × Output) → Checked Continued
summed w = w >>= λ r. accepted (continued_of r)

-- ---- what a run puts into a buffer

-- a run is accepted, and its bytes fit into n bytes from w on
abbrev pub FitsAt : ℕ → ℕ → Checked (Place Value × Output) → Type 0
FitsAt n w (refused k) = ⊥
FitsAt n w (accepted r) = w + length r.1.cells ≤ n

-- the buffer d with the bytes of a run from w on
abbrev pub put_at : List ℕ → ℕ → Checked (Place Value × Output) → List ℕ
put_at d w (refused k) = d
put_at d w (accepted r) = paste d w (record_of r.1) (length r.1.cells)

-- ---- one item

-- from p to q: at an offset of the same list, in a state, with the values vs left, and so many values more
pub record Goes (p : Progress) (s : State) (next : ℕ) (vs : List Value) (more : ℕ) (q : Progress) : Type 0 where
  pub is : place_of q.place ≡ place s vs
  pub list : q.place.reader.list.now ≡ p.place.reader.list.now
  pub at : q.place.reader.at ≡ next
  pub used : q.used ≡ p.used + more

abbrev pub passed : Progress → State → Progress → Type 0
passed p s q = Goes p s p.place.reader.at (left_of p.place.reader) 0 q

abbrev pub taken : Progress → State → ℕ → Progress → Type 0
taken p s next q = Goes p s next (values_of (drop next (list_of p.place))) 1 q

-- an item took the pass from p to q
pub record Moved (p : Progress) (op : Op) (q : Progress) : Type 0 where
  pub out : Output
  pub is : wrote p.place op ≡ accepted (place_of q.place, out)
  pub list : q.place.reader.list.now ≡ p.place.reader.list.now
  pub used : q.used ≡ p.used + length out.took
  pub items : out.items ≡ 1

-- where an item takes the pass: nowhere, if it is a blank
abbrev pub Stepped : Progress → Op → Result (Option Progress) Refusal → Type 0
Stepped p op (Err r) = wrote p.place op ≡ refused (refusal_number r)
Stepped p op (Ok None) = wrote p.place op ≡ accepted (place_of p.place, nothing)
Stepped p op (Ok (Some q)) = Moved p op q
