-- Bytes of integers, for every size together and in both byte orders.
use Rattle.std.specs.Prelude.{ℕ, zero, suc, ◌+◌, ◌*◌, ◌-◌, ◌/◌, ◌%◌, ◌^◌, ◌<◌, min, Bool, true, false, cond, List, [], ◌∷◌, ◌++◌, reverse, ltb, ℤ, pos, negsuc, replicate}
use Prim.Native.Char.{code}
use Prim.Native.String.{String}

abbrev pub IsByte : ℕ → Type 0
IsByte b = b < 256

-- a quoted text's bytes
abbrev pub bytes : String → List ℕ
bytes String.[] = []
bytes (String.◌∷◌ c s) = code c ∷ bytes s

-- the n lowest bytes of v, the lowest first
unfoldable pub little : ℕ → ℕ → List ℕ
little zero v = []
little (suc n) v = v % 256 ∷ little n (v / 256)

-- the number that bytes write, the lowest first
unfoldable pub total : List ℕ → ℕ
total [] = 0
total (b ∷ s) = total s * 256 + b

-- bytes that stand lowest first, in the byte order (true: big)
abbrev pub ordered : Bool → List ℕ → List ℕ
ordered false s = s
ordered true s = reverse s

-- an integer's 64 bits, as a number
abbrev pub bits : ℤ → ℕ
bits (pos n) = n
bits (negsuc n) = 2 ^ 64 - 1 - n

-- the byte that an integer's sign fills with
abbrev pub sign : ℤ → ℕ
sign (pos n) = 0
sign (negsuc n) = 255

-- n for n, and for -1 - n: z is one of -2^k..2^k-1 where its extent is below 2^k
abbrev pub extent : ℤ → ℕ
extent (pos n) = n
extent (negsuc n) = n

-- u, below 256 ^ n, brought into the signed range of n bytes
unfoldable pub signed : ℕ → ℕ → ℤ
signed n u = cond (ltb (u * 2) (256 ^ n)) (pos u) (negsuc (256 ^ n - 1 - u))

-- of n bytes, those that hold bits: at most eight
abbrev pub low : ℕ → ℕ
low n = min n 8

-- n bytes of the 64 bits w, with the byte b above eight
unfoldable pub laid : Bool → ℕ → ℕ → ℕ → List ℕ
laid big n w b = ordered big (little (low n) w ++ replicate (n - 8) b)

-- "Above 8 bytes an integer is filled with its sign": an integer in n bytes
abbrev pub coded : Bool → ℕ → ℤ → List ℕ
coded big n z = laid big n (bits z) (sign z)
