-- "An item is a byte with the decimal digits it takes."
use Rattle.std.specs.Prelude.{ℕ, zero, suc, ◌+◌, ◌*◌, ◌-◌, ◌^◌, Bool, true, false, ◌&&◌, cond, List, [], ◌∷◌, ◌++◌, leb, ltb, length}
use Prim.Native.Char.{code}
use Rattle.definition.specs.Options.{Table, Class, NoOption, Blank, Order, Limit, Number, Chars, ZeroEnded, Counted, Fill, Align, NumeralRule, Nothing, Digits, DigitsBehindX, NextByte}

abbrev pub is_digit : ℕ → Bool
is_digit b = leb (code "0") b && leb b (code "9")

-- the digits that s begins with
unfoldable pub digits : List ℕ → List ℕ
digits [] = []
digits (b ∷ s) = cond (is_digit b) (b ∷ digits s) []

-- ---- which bytes an item takes

abbrev pub is_number : Class → Bool
is_number NoOption = false
is_number Blank = false
is_number (Order o) = false
is_number Limit = false
is_number (Number k) = true
is_number Chars = false
is_number ZeroEnded = false
is_number Counted = false
is_number Fill = false
is_number Align = false

-- the rule lets digits belong to the byte behind X
abbrev pub behind_x : NumeralRule → Bool
behind_x Nothing = false
behind_x Digits = true
behind_x DigitsBehindX = true
behind_x NextByte = false

-- "X takes the next byte too, and after it the digits if it is i I l L f"
unfoldable pub next_byte : Table → List ℕ → List ℕ
next_byte t [] = []
next_byte t (c ∷ s) = c ∷ cond (is_number (t c).class && behind_x (t c).rule) (digits s) []

-- "i I l L c s ! take all digits that follow; no other does"
abbrev pub taken_by : Table → NumeralRule → List ℕ → List ℕ
taken_by t Nothing s = []
taken_by t Digits s = digits s
taken_by t DigitsBehindX s = []
taken_by t NextByte s = next_byte t s

-- what the byte b takes of the bytes s after it
unfoldable pub taken : Table → ℕ → List ℕ → List ℕ
taken t b s = taken_by t (t b).rule s

pub record Item : Type 0 where
  pub byte : ℕ
  pub more : List ℕ

abbrev pub item : ℕ → List ℕ → Item
item b s = record { byte = b; more = s }

-- the items of a format whose first k bytes belong to the item before
unfoldable pub items_past : Table → ℕ → List ℕ → List Item
items_past t zero [] = []
items_past t zero (b ∷ s) = item b (taken t b s) ∷ items_past t (length (taken t b s)) s
items_past t (suc k) [] = []
items_past t (suc k) (b ∷ s) = items_past t k s

abbrev pub items : Table → List ℕ → List Item
items t f = items_past t 0 f

-- the bytes of items
abbrev pub texts : List Item → List ℕ
texts [] = []
texts (i ∷ is) = i.byte ∷ (i.more ++ texts is)

-- ---- numerals

-- none, one of 2^64 or more, or its value
pub data Numeral : Type 0 where
  Missing : Numeral
  TooLarge : Numeral
  Value : ℕ → Numeral

-- the number that digits write after those that made n
unfoldable pub value : ℕ → List ℕ → ℕ
value n [] = n
value n (d ∷ s) = value (n * 10 + (d - code "0")) s

-- the numeral that digits write: it "ends as 2 once it reaches 2^64"
unfoldable pub numeral_of : List ℕ → Numeral
numeral_of [] = Missing
numeral_of (d ∷ s) = cond (ltb (value 0 (d ∷ s)) (2 ^ 64)) (Value (value 0 (d ∷ s))) TooLarge
