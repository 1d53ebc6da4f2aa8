-- "A program reads one format from standard input up to a line feed or the end (over 4,096 bytes: 22) and prints `size ` and the measure, or `refused ` and the number."
use Rattle.std.specs.Prelude.{ℕ, zero, suc, ◌+◌, ◌/◌, ◌%◌, cond, List, [], ◌∷◌, ◌++◌, leb, ltb, eqb, length}
use Prim.Native.Char.{code}
use Rattle.definition.specs.Answers.{Checked, refused, accepted, ◌>>◌, require}
use Rattle.definition.specs.Bytes.{bytes}
use Rattle.definition.specs.Options.{options}
use Rattle.definition.specs.Measuring.{measure}

-- the bytes up to a line feed or the end
unfoldable pub first_line : List ℕ → List ℕ
first_line [] = []
first_line (b ∷ s) = cond (eqb b (code "\n")) [] (b ∷ first_line s)

-- n in decimal, in at most k digits
unfoldable pub decimal_in : ℕ → ℕ → List ℕ
decimal_in zero n = []
decimal_in (suc k) n = cond (ltb n 10) ((code "0" + n) ∷ []) (decimal_in k (n / 10) ++ ((code "0" + n % 10) ∷ []))

-- n below 10^20 in decimal
abbrev pub decimal : ℕ → List ℕ
decimal n = decimal_in 20 n

abbrev pub line : Checked ℕ → List ℕ
line (refused k) = bytes "refused " ++ (decimal k ++ bytes "\n")
line (accepted n) = bytes "size " ++ (decimal n ++ bytes "\n")

-- what is printed for an input
unfoldable pub printed : List ℕ → List ℕ
printed input = line (require (leb (length (first_line input)) 4096) 22 >> measure options (first_line input))
