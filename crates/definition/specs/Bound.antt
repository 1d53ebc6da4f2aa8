-- "The list bound": how long the value list of an accepted reading can be.
use Rattle.std.specs.Prelude.{ℕ, ◌+◌, min, List}
use Rattle.definition.specs.Answers.{Checked, accepted, ◌>>=◌, ◌>>◌, run_silent}
use Rattle.definition.specs.Options.{Table}
use Rattle.definition.specs.Ops.{ops}
use Rattle.definition.specs.States.{start, set, natural, alignment, longer}
use Rattle.definition.specs.declared.State.{State}
use Rattle.definition.specs.declared.Field.{Field}
use Rattle.definition.specs.declared.Field.TheVariants.{Number, Chars, ZeroEnded, Counted}
use Rattle.definition.specs.declared.Op.{Op}
use Rattle.definition.specs.declared.Op.TheVariants.{Blank, Set, Pad, Put}

-- "11 for each number, 3 + min(n, 65,535) for c, 3 + min(data length, 65,535) for z and s"
abbrev pub most : ℕ → Field → ℕ
most d (Number k n) = 11
most d (Chars n) = 3 + min n 65535
most d ZeroEnded = 3 + min d 65535
most d (Counted n) = 3 + min d 65535

-- "the checks of measuring except 10, and 9 on its sum": the state's length is the sum
unfoldable pub bound_op : ℕ → State → Op → Checked State
bound_op d s Blank = accepted s
bound_op d s (Set x) = accepted (set x s)
bound_op d s (Pad n k) = alignment s n >> accepted s
bound_op d s (Put f) = alignment s (natural f) >> longer s (most d f)

-- the state after items
abbrev pub bounding : ℕ → State → List (Checked Op) → Checked State
bounding d s is = run_silent (bound_op d) s is

-- of a format and a data length
unfoldable pub bound : Table → List ℕ → ℕ → Checked ℕ
bound t f d = bounding d start (ops t f) >>= λ s. accepted s.length
