-- "A table of 256 entries, one for each byte value, says what that byte means."
use Rattle.std.specs.Prelude.{ℕ, Bool, true, false, cond, List, [], ◌∷◌, eqb}
use Prim.Native.Char.{code}
use Rattle.definition.specs.declared.Kind.{Kind}
use Rattle.definition.specs.declared.Kind.TheVariants.{SmallSigned, SmallUnsigned, Signed, Unsigned, LuaInteger, LuaUnsigned, Size, Single, Double}

-- What a byte means: < and = are `Order false`, > is `Order true`, ! is Limit, c is Chars, z is ZeroEnded, s is Counted, x is Fill, and X is Align.
pub data Class : Type 0 where
  NoOption : Class
  Blank : Class
  Order : Bool → Class
  Limit : Class
  Number : Kind → Class
  Chars : Class
  ZeroEnded : Class
  Counted : Class
  Fill : Class
  Align : Class

-- Which bytes after it a byte takes into its item: none; the digits; the digits where it stands behind X; or the next byte, with the digits that this one takes behind X.
pub data NumeralRule : Type 0 where
  Nothing : NumeralRule
  Digits : NumeralRule
  DigitsBehindX : NumeralRule
  NextByte : NumeralRule

-- what a byte means, its size where it has no numeral, and its numeral rule
pub record Entry : Type 0 where
  pub class : Class
  pub size : ℕ
  pub rule : NumeralRule

-- the entry of each byte
abbrev pub Table : Type 0
Table = ℕ → Entry

abbrev pub entry : Class → ℕ → NumeralRule → Entry
entry c n r = record { class = c; size = n; rule = r }

-- the entries of the bytes that have a meaning; a size is that of the option without a numeral
unfoldable pub entry_list : List (ℕ × Entry)
entry_list =
    (code " ", entry Blank 0 Nothing)
    ∷ (code "\t", entry Blank 0 Nothing)
    ∷ (code "\n", entry Blank 0 Nothing)
    ∷ (code "\r", entry Blank 0 Nothing)
    ∷ (code "<", entry (Order false) 0 Nothing)
    ∷ (code ">", entry (Order true) 0 Nothing)
    ∷ (code "=", entry (Order false) 0 Nothing)
    ∷ (code "!", entry Limit 8 Digits)
    ∷ (code "b", entry (Number SmallSigned) 1 Nothing)
    ∷ (code "B", entry (Number SmallUnsigned) 1 Nothing)
    ∷ (code "h", entry (Number SmallSigned) 2 Nothing)
    ∷ (code "H", entry (Number SmallUnsigned) 2 Nothing)
    ∷ (code "i", entry (Number Signed) 4 Digits)
    ∷ (code "l", entry (Number Signed) 4 Digits)
    ∷ (code "I", entry (Number Unsigned) 4 Digits)
    ∷ (code "L", entry (Number Unsigned) 4 Digits)
    ∷ (code "j", entry (Number LuaInteger) 8 Nothing)
    ∷ (code "J", entry (Number LuaUnsigned) 8 Nothing)
    ∷ (code "T", entry (Number Size) 8 Nothing)
    ∷ (code "f", entry (Number Single) 4 DigitsBehindX)
    ∷ (code "d", entry (Number Double) 8 Nothing)
    ∷ (code "n", entry (Number Double) 8 Nothing)
    ∷ (code "c", entry Chars 0 Digits)
    ∷ (code "z", entry ZeroEnded 0 Nothing)
    ∷ (code "s", entry Counted 8 Digits)
    ∷ (code "x", entry Fill 0 Nothing)
    ∷ (code "X", entry Align 0 NextByte)
    ∷ []

-- the entry of b among those of a list, else that of a byte that is no option
abbrev pub find : ℕ → List (ℕ × Entry) → Entry
find b [] = entry NoOption 0 Nothing
find b (e ∷ es) = cond (eqb b e.0) e.1 (find b es)

-- the table
unfoldable pub options : Table
unfolding entry_list
options b = find b entry_list
