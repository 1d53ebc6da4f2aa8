-- "Measuring": the format's checks, alignment and lengths; "Measuring leaves out values."
use Rattle.std.specs.Prelude.{ℕ, ◌+◌, List}
use Rattle.definition.specs.Answers.{Checked, refused, accepted, ◌>>=◌, run_silent}
use Rattle.definition.specs.Options.{Table}
use Rattle.definition.specs.Ops.{ops}
use Rattle.definition.specs.States.{start, set, natural, padding, longer}
use Rattle.definition.specs.declared.State.{State}
use Rattle.definition.specs.declared.Field.{Field}
use Rattle.definition.specs.declared.Field.TheVariants.{Number, Chars, ZeroEnded, Counted}
use Rattle.definition.specs.declared.Op.{Op}
use Rattle.definition.specs.declared.Op.TheVariants.{Blank, Set, Pad, Put}

-- "10 z or s in measuring"
abbrev pub size_of : Field → Checked ℕ
size_of (Number k n) = accepted n
size_of (Chars n) = accepted n
size_of ZeroEnded = refused 10
size_of (Counted n) = refused 10

-- an alignment by n, and k bytes: 6, then 9
abbrev pub measure_pad : State → ℕ → ℕ → Checked State
measure_pad s n k = padding s n >>= λ p. longer s (p + k)

unfoldable pub measure_op : State → Op → Checked State
measure_op s Blank = accepted s
measure_op s (Set x) = accepted (set x s)
measure_op s (Pad n k) = measure_pad s n k
measure_op s (Put f) = size_of f >>= measure_pad s (natural f)

-- the state after items
abbrev pub measuring : State → List (Checked Op) → Checked State
measuring s is = run_silent measure_op s is

-- the state that a format leads to
abbrev pub measure_from : Table → State → List ℕ → Checked State
measure_from t s f = measuring s (ops t f)

-- the size of a format
unfoldable pub measure : Table → List ℕ → Checked ℕ
measure t f = measure_from t start f >>= λ s. accepted s.length
