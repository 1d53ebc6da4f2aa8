-- What an item does, or its refusal by the checks that need no state: "numeral (8, 2), limits (3, 4, 5)", 1, and "X checks 7 first".
use Rattle.std.specs.Prelude.{ℕ, Bool, ◌&&◌, ◌||◌, List, [], ◌∷◌, map, leb, ltb, eqb}
use Rattle.definition.specs.Answers.{Checked, refused, accepted, ◌>>=◌, ◌>>◌, require}
use Rattle.definition.specs.Options.{Table, Class, NoOption, Blank, Order, Limit, Number, Chars, ZeroEnded, Counted, Fill, Align, NumeralRule, Nothing, Digits, DigitsBehindX, NextByte, Entry}
use Rattle.definition.specs.Items.{Item, items, numeral_of, Numeral, Missing, TooLarge, Value}
use Rattle.definition.specs.declared.Op.{Op}
use Rattle.definition.specs.declared.Field.TheVariants as Field
use Rattle.definition.specs.declared.Setting.TheVariants as Setting

-- a numeral's value, d where there is none; 2
abbrev pub value_or : ℕ → Numeral → Checked ℕ
value_or d Missing = accepted d
value_or d TooLarge = refused 2
value_or d (Value n) = accepted n

-- a numeral's value: 8 where there is none; 2
abbrev pub needed : Numeral → Checked ℕ
needed Missing = refused 8
needed TooLarge = refused 2
needed (Value n) = accepted n

abbrev pub within16 : ℕ → Bool
within16 n = leb 1 n && leb n 16

-- a power of two of 1..16
abbrev pub is_power : ℕ → Bool
is_power n = eqb n 1 || (eqb n 2 || (eqb n 4 || (eqb n 8 || eqb n 16)))

-- the size of a number or of the length of s, d without a numeral: "3 i I l L s size outside 1..16"
abbrev pub size_or : ℕ → Numeral → Checked ℕ
size_or d m = do
  n ← value_or d m
  require (within16 n) 3
  accepted n

-- the limit of !: "4 ! outside 1..16", "5 ! not a power of two"
abbrev pub limit_or : ℕ → Numeral → Checked ℕ
limit_or d m = do
  n ← value_or d m
  require (within16 n) 4
  require (is_power n) 5
  accepted n

-- ---- X: "natural is 1 for b B; 2 for h H; for i I l L the numeral, else 4; 4 for f, whose digits are ignored, however many; 8 for d n j J T; 1 for any other byte but those under 7"

-- of a number
abbrev pub number_natural : NumeralRule → ℕ → Numeral → Checked ℕ
number_natural Nothing n m = accepted n
number_natural Digits n m = size_or n m
number_natural DigitsBehindX n m = accepted n
number_natural NextByte n m = accepted n

-- "7 X at the end or before blank, X < > = ! c s z x"
abbrev pub natural_by : Class → NumeralRule → ℕ → Numeral → Checked ℕ
natural_by NoOption r n m = accepted 1
natural_by Blank r n m = refused 7
natural_by (Order o) r n m = refused 7
natural_by Limit r n m = refused 7
natural_by (Number k) r n m = number_natural r n m
natural_by Chars r n m = refused 7
natural_by ZeroEnded r n m = refused 7
natural_by Counted r n m = refused 7
natural_by Fill r n m = refused 7
natural_by Align r n m = refused 7

-- of what X takes; "1 .. any byte above 127 even after X"
abbrev pub natural_of : Table → List ℕ → Checked ℕ
natural_of t [] = refused 7
natural_of t (c ∷ s) = do
  require (ltb c 128) 1
  natural_by (t c).class (t c).rule (t c).size (numeral_of s)

-- ---- the items

-- by the entry of the byte, its size and its numeral, of any byte but X
abbrev pub op_by : Class → ℕ → Numeral → Checked Op
op_by NoOption n m = refused 1
op_by Blank n m = accepted Op.Blank
op_by (Order o) n m = accepted (Op.Set (Setting.Order o))
op_by Limit n m = limit_or n m >>= λ k. accepted (Op.Set (Setting.Limit k))
op_by (Number k) n m = size_or n m >>= λ size. accepted (Op.Put (Field.Number k size))
op_by Chars n m = needed m >>= λ k. accepted (Op.Put (Field.Chars k))
op_by ZeroEnded n m = accepted (Op.Put Field.ZeroEnded)
op_by Counted n m = size_or n m >>= λ size. accepted (Op.Put (Field.Counted size))
op_by Fill n m = accepted (Op.Pad 1 1)
op_by Align n m = refused 7

-- by what the byte takes
abbrev pub op_with : Table → NumeralRule → Entry → List ℕ → Checked Op
op_with t Nothing e s = op_by e.class e.size Missing
op_with t Digits e s = op_by e.class e.size (numeral_of s)
op_with t DigitsBehindX e s = op_by e.class e.size Missing
op_with t NextByte e s = natural_of t s >>= λ n. accepted (Op.Pad n 0)

unfoldable pub op_of : Table → Item → Checked Op
op_of t i = op_with t (t i.byte).rule (t i.byte) i.more

-- what each item of a format does, or its refusal
abbrev pub ops : Table → List ℕ → List (Checked Op)
ops t f = map (op_of t) (items t f)
