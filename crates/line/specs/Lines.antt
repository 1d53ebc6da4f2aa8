-- When the answer to an input is settled.
use Rattle.std.specs.Prelude.{ℕ, ◌≡◌, Bool, true, cond, List, ◌++◌, ltb, length}
use Rattle.definition.specs.Program.{first_line, printed}

-- whether the first line is complete, or longer than a format may be
abbrev pub settled : List ℕ → Bool
settled s = cond (ltb 4096 (length (first_line s))) true (ltb (length (first_line s)) (length s))

-- what follows an input doesn't change its answer
abbrev pub Stands : List ℕ → Type 0
Stands s = (more : List ℕ) → printed (s ++ more) ≡ printed s
