-- The bytes of an integer, one by one.
use Rattle.std.specs.Prelude.{ℕ, ◌-◌, ◌/◌, ◌%◌, ◌^◌, Bool, true, false, cond, List, take, drop, nat_lt}
use Rattle.definition.specs.Bytes.{ordered, low}

-- the byte k, counted from the lowest: of the 64 bits w, and above eight the fill f
abbrev pub byte_of : ℕ → ℕ → ℕ → ℕ
byte_of w f k = cond (nat_lt k 8) (w / 256 ^ k % 256) f

-- where the byte k stands among n bytes, in the byte order (true: big)
abbrev pub place_of : Bool → ℕ → ℕ → ℕ
place_of false n k = k
place_of true n k = n - 1 - k

-- the first n bytes of s, lowest first; of these the lowest eight, and those above
abbrev pub lowest_first : Bool → ℕ → List ℕ → List ℕ
lowest_first o n s = ordered o (take n s)

abbrev pub low_bytes : Bool → ℕ → List ℕ → List ℕ
low_bytes o n s = take (low n) (lowest_first o n s)

abbrev pub high_bytes : Bool → ℕ → List ℕ → List ℕ
high_bytes o n s = drop (low n) (lowest_first o n s)
