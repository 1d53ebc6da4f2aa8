-- A text of a value list as it is stored.
use Rattle.std.specs.Prelude.{ℕ, Bool, List, ◌++◌, take, drop, replicate}
use Rattle.definition.specs.Bytes.{laid}

-- the bytes of a text and of zeros behind it
abbrev pub text_bytes : List ℕ → ℕ → ℕ → ℕ → List ℕ
text_bytes l start len zeros = take len (drop start l) ++ replicate zeros 0

-- the bytes of its length, in n bytes, and of a text
abbrev pub counted_bytes : Bool → List ℕ → ℕ → ℕ → ℕ → List ℕ
counted_bytes o l n start len = laid o n len 0 ++ take len (drop start l)
