-- The state between items, and alignment.
use Rattle.std.specs.Prelude.{ℕ, ◌+◌, ◌-◌, ◌^◌, ◌%◌, min, Bool, false, cond, leb, eqb}
use Rattle.definition.specs.Answers.{Checked, accepted, ◌>>=◌, ◌>>◌, require}
use Rattle.definition.specs.Ops.{is_power}
use Rattle.definition.specs.declared.State.{State}
use Rattle.definition.specs.declared.Setting.{Setting}
use Rattle.definition.specs.declared.Setting.TheVariants.{Order, Limit}
use Rattle.definition.specs.declared.Field.{Field}
use Rattle.definition.specs.declared.Field.TheVariants.{Number, Chars, ZeroEnded, Counted}

abbrev pub state : Bool → ℕ → ℕ → State
state o m n = record { big = o; limit = m; length = n }

-- "The start state is little, limit 1, length 0."
abbrev pub start : State
start = state false 1 0

-- `<` `>` `=` and `!`
abbrev pub set : Setting → State → State
set (Order o) s = state o s.limit s.length
set (Limit n) s = state s.big n s.length

-- the state n bytes on
abbrev pub further : State → ℕ → State
further s n = state s.big s.limit (s.length + n)

-- "9 length .. above 2^63-1", else the state n bytes on
unfoldable pub longer : State → ℕ → Checked State
longer s n = do
  require (leb (s.length + n) (2 ^ 63 - 1)) 9
  accepted (further s n)

-- ---- alignment

-- "h H i I l L f d n j J T start at an offset that is a multiple of min(size, limit) .. b B c z .. don't align"; "s takes the alignment of its starting integer"
abbrev pub natural : Field → ℕ
natural (Number k n) = n
natural (Chars n) = 1
natural ZeroEnded = 1
natural (Counted n) = n

-- min(natural, limit): "6 .. above 1 and no power of two"
unfoldable pub alignment : State → ℕ → Checked ℕ
alignment s n = do
  require (is_power (min n s.limit)) 6
  accepted (min n s.limit)

-- "work the fill out from one remainder": the least number that takes n to a multiple of a
abbrev pub fill : ℕ → ℕ → ℕ
fill a n = let r = n % a in cond (eqb r 0) 0 (a - r)

-- "zeros fill up": how many, before what has this natural alignment
unfoldable pub padding : State → ℕ → Checked ℕ
padding s n = do
  a ← alignment s n
  accepted (fill a s.length)
