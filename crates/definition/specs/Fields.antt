-- What takes a value: the bytes of a value, the value of bytes, and the value that is kept.
use Rattle.std.specs.Prelude.{ℕ, ◌+◌, ◌*◌, ◌-◌, ◌^◌, ◌%◌, Bool, true, false, ◌&&◌, not, cond, List, [], ◌∷◌, ◌++◌, leb, ltb, eqb, ℤ, pos, negsuc, length, take, drop, replicate}
use Rattle.std.specs.Float.{binary64}
use Rattle.std.specs.Float.Ieee.{of_bits}
use Rattle.single.specs.Single.{to_single, from_single}
use Rattle.definition.specs.Answers.{Checked, refused, accepted, ◌>>=◌, ◌>>◌, require, or_else}
use Rattle.definition.specs.Bytes.{total, ordered, bits, sign, extent, signed, low, coded}
use Rattle.definition.specs.Values.{Value, integer, float, text, other, as_integer, as_number, as_bytes, wrapped}
use Rattle.definition.specs.Lists.{front}
use Rattle.definition.specs.declared.Kind.{Kind}
use Rattle.definition.specs.declared.Kind.TheVariants.{SmallSigned, SmallUnsigned, Signed, Unsigned, LuaInteger, LuaUnsigned, Size, Single, Double}
use Rattle.definition.specs.declared.Field.{Field}
use Rattle.definition.specs.declared.Field.TheVariants.{Number, Chars, ZeroEnded, Counted}

-- ---- writing: 12, then "13 or 14 or 15"

-- "13 i I l L under 8 bytes out of range; I L J negative": z is in the range of n bytes; every integer of 64 bits is, signed, from 8 bytes on
abbrev pub in_signed : ℕ → ℤ → Bool
in_signed n z = ltb (extent z * 2) (256 ^ n)

abbrev pub in_unsigned : ℕ → ℤ → Bool
in_unsigned n (pos u) = ltb u (256 ^ n)
in_unsigned n (negsuc u) = false

-- a float by g of its bits
abbrev pub float_by : (ℕ → ℕ) → Value → Checked ℤ
float_by g (integer z) = refused 12
float_by g (float b) = accepted (pos (g b))
float_by g (text s) = refused 12
float_by g other = refused 12

-- the integer of a value; a float that has none, by g of its bits
abbrev pub integer_or : (ℕ → ℕ) → Value → Checked ℤ
integer_or g v = or_else (as_integer v) (float_by g v)

-- the integer whose n bytes a number option writes
unfoldable pub word : Kind → ℕ → Value → Checked ℤ
word SmallSigned n v = or_else (as_integer v) (refused 12)
word SmallUnsigned n v = or_else (as_integer v) (refused 12)
word Signed n v = do
  z ← or_else (as_integer v) (refused 12)
  require (in_signed n z) 13
  accepted z
word Unsigned n v = do
  z ← or_else (as_integer v) (refused 12)
  require (in_unsigned n z) 13
  accepted z
word LuaInteger n v = integer_or (λ b. b) v
word LuaUnsigned n v = do
  z ← integer_or (λ b. b) v
  require (in_unsigned n z) 13
  accepted z
word Size n v = integer_or (λ b. wrapped (of_bits binary64 b)) v
word Single n v = or_else (as_number v) (refused 12) >>= λ b. accepted (pos (to_single b))
word Double n v = or_else (as_number v) (refused 12) >>= λ b. accepted (pos b)

-- s filled with zeros up to n bytes
abbrev pub filled : ℕ → List ℕ → List ℕ
filled n s = s ++ replicate (n - length s) 0

abbrev pub has_zero : List ℕ → Bool
has_zero [] = false
has_zero (b ∷ s) = cond (eqb b 0) true (has_zero s)

-- the bytes of a value, in byte order
unfoldable pub encode : Bool → Field → Value → Checked (List ℕ)
encode o (Number k n) v = do
  z ← word k n v
  accepted (coded o n z)
encode o (Chars n) v = do
  s ← or_else (as_bytes v) (refused 12)
  require (leb (length s) n) 15
  accepted (filled n s)
encode o ZeroEnded v = do
  s ← or_else (as_bytes v) (refused 12)
  require (not (has_zero s)) 14
  accepted (s ++ (0 ∷ []))
encode o (Counted n) v = do
  s ← or_else (as_bytes v) (refused 12)
  require (ltb (length s) (256 ^ n)) 15
  accepted (coded o n (pos (length s)) ++ s)

-- ---- reading: "17 .., then 18 or 19, then 20"

-- "17 data ends", else the first n bytes
abbrev pub first : ℕ → List ℕ → Checked (List ℕ)
first n s = front 17 n s

-- "20 text above 65,535"
abbrev pub short : List ℕ → Checked (List ℕ)
short s = do
  require (leb (length s) 65535) 20
  accepted s

-- the bytes before the first zero; "19 z without zero"
abbrev pub up_to_zero : List ℕ → Checked (List ℕ)
up_to_zero [] = refused 19
up_to_zero (b ∷ s) = cond (eqb b 0) (accepted []) (up_to_zero s >>= λ t. accepted (b ∷ t))

-- every byte is b
abbrev pub all : ℕ → List ℕ → Bool
all b [] = true
all b (c ∷ s) = eqb c b && all b s

-- of the first n bytes, the number that the lowest eight write, and the bytes above these
unfoldable pub number : Bool → ℕ → List ℕ → Checked (ℕ × List ℕ)
number o n s = do
  l ← first n s
  accepted (total (take (low n) (ordered o l)), drop (low n) (ordered o l))

-- "An i or l above 8 bytes must be filled with the sign of its low 8 bytes, an I, L or s length with zeros": else 18
abbrev pub signed_value : ℕ → ℕ → List ℕ → Checked Value
signed_value n u h = do
  require (all (sign (signed (low n) u)) h) 18
  accepted (integer (signed (low n) u))

abbrev pub unsigned : ℕ → List ℕ → Checked ℕ
unsigned u h = do
  require (all 0 h) 18
  accepted u

-- "Unsigned results are the same 64 bits as an integer."
abbrev pub unsigned_value : ℕ → List ℕ → Checked Value
unsigned_value u h = unsigned u h >>= λ w. accepted (integer (signed 8 w))

-- the value of a number of n bytes: u, and the bytes h above
abbrev pub value_by : Kind → ℕ → ℕ → List ℕ → Checked Value
value_by SmallSigned n u h = signed_value n u h
value_by SmallUnsigned n u h = unsigned_value u h
value_by Signed n u h = signed_value n u h
value_by Unsigned n u h = unsigned_value u h
value_by LuaInteger n u h = signed_value n u h
value_by LuaUnsigned n u h = unsigned_value u h
value_by Size n u h = unsigned_value u h
value_by Single n u h = accepted (float (from_single u))
value_by Double n u h = accepted (float u)

-- the value of the bytes that s begins with, and how many they are
unfoldable pub decode : Bool → Field → List ℕ → Checked (Value × ℕ)
decode o (Number k n) s = do
  (u, h) ← number o n s
  v ← value_by k n u h
  accepted (v, n)
decode o (Chars n) s = do
  t ← first n s
  u ← short t
  accepted (text u, n)
decode o ZeroEnded s = do
  t ← up_to_zero s
  u ← short t
  accepted (text u, length u + 1)
decode o (Counted n) s = do
  (u, h) ← number o n s
  k ← unsigned u h
  t ← first k (drop n s)
  v ← short t
  accepted (text v, n + k)

-- ---- "Kept, by option"

-- by the integer that a number option wrote
abbrev pub kept_number : Kind → ℕ → ℤ → Value
kept_number SmallSigned n z = integer (signed n (bits z % 256 ^ n))
kept_number SmallUnsigned n z = integer (pos (bits z % 256 ^ n))
kept_number Signed n z = integer z
kept_number Unsigned n z = integer z
kept_number LuaInteger n z = integer (signed 8 (bits z))
kept_number LuaUnsigned n z = integer (signed 8 (bits z))
kept_number Size n z = integer (signed 8 (bits z % 256 ^ n))
kept_number Single n z = float (from_single (bits z))
kept_number Double n z = float (bits z)

abbrev pub or_other : {A : Type 0} → Checked A → (A → Value) → Value
or_other (refused k) g = other
or_other (accepted a) g = g a

-- what is kept of a value that a field wrote
unfoldable pub kept : Field → Value → Value
kept (Number k n) v = or_other (word k n v) (kept_number k n)
kept (Chars n) v = or_other (or_else (as_bytes v) (refused 12)) (λ s. text (filled n s))
kept ZeroEnded v = v
kept (Counted n) v = v
