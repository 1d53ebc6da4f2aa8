-- "..., then writing": "In an item: numeral (8, 2), limits (3, 4, 5), alignment (6), 11, 12, 13 or 14 or 15, then 9. c checks 9 before 11."
use Rattle.std.specs.Prelude.{ℕ, ◌+◌, List, [], ◌∷◌, ◌++◌, map, length, replicate}
use Rattle.definition.specs.Answers.{Checked, refused, accepted, ◌>>=◌, run}
use Rattle.definition.specs.Options.{Table}
use Rattle.definition.specs.Ops.{ops}
use Rattle.definition.specs.Values.{Value}
use Rattle.definition.specs.States.{set, natural, padding, longer}
use Rattle.definition.specs.Fields.{encode}
use Rattle.definition.specs.declared.State.{State}
use Rattle.definition.specs.declared.Field.{Field}
use Rattle.definition.specs.declared.Field.TheVariants.{Number, Chars, ZeroEnded, Counted}
use Rattle.definition.specs.declared.Op.{Op}
use Rattle.definition.specs.declared.Op.TheVariants.{Blank, Set, Pad, Put}

-- "Padding is the zeros of x, X and alignment, not c's fill": a byte of the record is padding, or belongs to a value.
pub data Cell : Type 0 where
  pad : Cell
  byte : ℕ → Cell

abbrev pub pads : ℕ → List Cell
pads n = replicate n pad

-- the byte that is written
abbrev pub zeroed : Cell → ℕ
zeroed pad = 0
zeroed (byte b) = b

-- what a run puts out: the bytes, each field with the value that it took, and "the number of items run, blanks not counted"
pub record Output : Type 0 where
  pub cells : List Cell
  pub took : List (Field × Value)
  pub items : ℕ

abbrev pub output : List Cell → List (Field × Value) → ℕ → Output
output c t n = record { cells = c; took = t; items = n }

abbrev pub nothing : Output
nothing = output [] [] 0

infixl 60 ◌⊕◌
abbrev pub ◌⊕◌ : Output → Output → Output
a ⊕ b = output (a.cells ++ b.cells) (a.took ++ b.took) (a.items + b.items)

-- a state, and what is left: values in writing, bytes in reading
pub record Place (A : Type 0) : Type 0 where
  pub state : State
  pub left : List A

abbrev pub place : {A : Type 0} → State → List A → Place A
place s l = record { state = s; left = l }

-- "11 none left", else the first value and those after it
abbrev pub taking : List Value → Checked (Value × List Value)
taking [] = refused 11
taking (v ∷ vs) = accepted (v, vs)

-- "c checks 9 before 11"
abbrev pub early : State → Field → Checked State
early s (Number k n) = accepted s
early s (Chars n) = longer s n
early s ZeroEnded = accepted s
early s (Counted n) = accepted s

abbrev pub write_pad : Place Value → ℕ → ℕ → Checked (Place Value × Output)
write_pad r n k = do
  p ← padding r.state n
  s ← longer r.state (p + k)
  accepted (place s r.left, output (pads (p + k)) [] 1)

unfoldable pub write_field : Place Value → Field → Checked (Place Value × Output)
write_field r f = do
  p ← padding r.state (natural f)
  e ← early r.state f
  t ← taking r.left
  bs ← encode r.state.big f t.0
  s ← longer r.state (p + length bs)
  accepted (place s t.1, output (pads p ++ map byte bs) ((f, t.0) ∷ []) 1)

unfoldable pub write_op : Place Value → Op → Checked (Place Value × Output)
write_op r Blank = accepted (r, nothing)
write_op r (Set x) = accepted (place (set x r.state) r.left, output [] [] 1)
write_op r (Pad n k) = write_pad r n k
write_op r (Put f) = write_field r f

abbrev pub writing : Place Value → List (Checked Op) → Checked (Place Value × Output)
writing r is = run write_op nothing ◌⊕◌ r is

-- a format written from a state with values
abbrev pub write : Table → State → List Value → List ℕ → Checked (Place Value × Output)
write t s vs f = writing (place s vs) (ops t f)
