-- "Reading": "In an item: format checks, then 17 (padding, x and X included), then 18 or 19, then 20".
use Rattle.std.specs.Prelude.{ℕ, suc, ◌+◌, ◌-◌, ◌&&◌, List, [], ◌∷◌, ◌++◌, map, leb, ltb, ℤ, pos, negsuc, length, take, drop}
use Rattle.definition.specs.Answers.{Checked, accepted, ◌>>=◌, ◌>>◌, require, run}
use Rattle.definition.specs.Options.{Table}
use Rattle.definition.specs.Ops.{ops}
use Rattle.definition.specs.Values.{Value}
use Rattle.definition.specs.States.{start, state, set, further, natural, padding}
use Rattle.definition.specs.Fields.{decode, first}
use Rattle.definition.specs.Writing.{Place, place}
use Rattle.definition.specs.declared.Op.{Op}
use Rattle.definition.specs.declared.Op.TheVariants.{Blank, Set, Pad, Put}
use Rattle.definition.specs.declared.Field.{Field}
use Rattle.definition.specs.declared.State.{State}
use Rattle.definition.specs.declared.Offset.{Offset}
use Rattle.definition.specs.declared.Position.{Position}

-- "An offset counts from 0, a position from 1."
abbrev pub offset : ℕ → Offset
offset n = record { 0 = n }

abbrev pub position_of : Offset → Position
position_of o = record { 0 = o.0 + 1 }

-- "Start p: 1..len+1, or -len..-1 meaning len+1+p"; "16 start outside"
abbrev pub offset_of : ℤ → ℕ → Checked Offset
offset_of (pos p) len = require (leb 1 p && leb p (len + 1)) 16 >> accepted (offset (p - 1))
offset_of (negsuc k) len = require (ltb k len) 16 >> accepted (offset (len - suc k))

-- "Alignment counts from the data's first byte": the state's length is the offset in the data
abbrev pub offset_in : State → Offset
offset_in s = offset s.length

abbrev pub at_offset : State → Offset → State
at_offset s o = state s.big s.limit o.0

-- the place n bytes on; what is left are the bytes from there
abbrev pub skipped : Place ℕ → ℕ → Place ℕ
skipped r n = place (further r.state n) (drop n r.left)

-- past an alignment by n, and k bytes
abbrev pub read_pad : Place ℕ → ℕ → ℕ → Checked (Place ℕ)
read_pad r n k = do
  p ← padding r.state n
  b ← first (p + k) r.left
  accepted (skipped r (p + k))

-- a value that is read: what it is read as, where its bytes start in the data, the bytes, and the value
pub record Read : Type 0 where
  pub field : Field
  pub start : Offset
  pub bytes : List ℕ
  pub value : Value

unfoldable pub read_field : Place ℕ → Field → Checked (Place ℕ × List Read)
read_field r f = do
  t ← read_pad r (natural f) 0
  v ← decode r.state.big f t.left
  accepted (skipped t v.1, record { field = f; start = offset t.state.length; bytes = take v.1 t.left; value = v.0 } ∷ [])

unfoldable pub read_op : Place ℕ → Op → Checked (Place ℕ × List Read)
read_op r Blank = accepted (r, [])
read_op r (Set x) = accepted (place (set x r.state) r.left, [])
read_op r (Pad n k) = read_pad r n k >>= λ t. accepted (t, [])
read_op r (Put f) = read_field r f

abbrev pub reading : Place ℕ → List (Checked Op) → Checked (Place ℕ × List Read)
reading r is = run read_op [] ◌++◌ r is

-- a format read from an offset of the data, in the start state's order and limit
abbrev pub read_from : Table → List ℕ → List ℕ → Offset → Checked (Place ℕ × List Read)
read_from t f d o = reading (place (at_offset start o) (drop o.0 d)) (ops t f)

-- what a format reads in data, from a start, and the position after the last byte read: 16 "before all items"
unfoldable pub read : Table → List ℕ → List ℕ → ℤ → Checked (List Read × Position)
read t f d p = do
  o ← offset_of p (length d)
  r ← read_from t f d o
  accepted (r.1, position_of (offset_in r.0.state))

-- the values that are read
abbrev pub values_of : List Read → List Value
values_of rs = map (λ r. r.value) rs
