-- The operand of an option: its size, limit, length or alignment.
use Rattle.std.specs.Prelude.{ℕ, ◌+◌, ◌<◌, cond, List, ltb, leb, length, drop, Result, Ok, Err}
use Rattle.definition.specs.Answers.{Checked, refused, accepted, ◌>>=◌}
use Rattle.definition.specs.Items.{digits, taken_by, next_byte, numeral_of, Numeral, Missing, TooLarge, Value}
use Rattle.definition.specs.Ops.{size_or, limit_or, needed, natural_of}
use Rattle.definition.specs.Options.{Table, Class, NumeralRule, Nothing, Digits, DigitsBehindX, NextByte, Entry}
use Rattle.definition.specs.Refusals.{refusal_number}
use Rattle.definition.specs.declared.Refusal.{Refusal}
use Rattle.numeral.specs.Numerals.{short_of}
use Rattle.numeral.specs.declared.Short.{Short}
use Rattle.options.specs.Packed.{entry_at}
use Rattle.operand.specs.declared.Operand.{Operand}
use Rattle.operand.specs.declared.Behind.{Behind}

-- the size by the numeral; n, which needs no check, without one
abbrev pub size_by : ℕ → Numeral → Checked ℕ
size_by n Missing = accepted n
size_by n TooLarge = refused 2
size_by n (Value k) = size_or n (Value k)

-- the operand by class, size and numeral, of any option but X
abbrev pub operand_by : Class → ℕ → Numeral → Checked ℕ
operand_by Class.NoOption n m = refused 1
operand_by Class.Blank n m = accepted n
operand_by (Class.Order o) n m = accepted n
operand_by Class.Limit n m = limit_or n m
operand_by (Class.Number k) n m = size_by n m
operand_by Class.Chars n m = needed m
operand_by Class.ZeroEnded n m = accepted n
operand_by Class.Counted n m = size_by n m
operand_by Class.Fill n m = accepted n
operand_by Class.Align n m = refused 7

-- by what the option takes
abbrev pub operand_with : Table → NumeralRule → Entry → List ℕ → Checked ℕ
operand_with t Nothing e s = operand_by e.class e.size Missing
operand_with t Digits e s = operand_by e.class e.size (numeral_of s)
operand_with t DigitsBehindX e s = operand_by e.class e.size Missing
operand_with t NextByte e s = natural_of t s

-- a number, and how many bytes are taken
abbrev pub taking : ℕ → Checked ℕ → Checked (ℕ × ℕ)
taking i c = c >>= λ n. accepted (n, i)

-- the operand of an option with the entry e, what follows its byte being s; and how many bytes it takes
unfoldable pub operand_at : Table → Entry → List ℕ → Checked (ℕ × ℕ)
operand_at t e s = taking (length (taken_by t e.rule s)) (operand_with t e.rule e (taken_by t e.rule s))

-- the alignment of X, what follows it being s; and how many bytes it takes
unfoldable pub natural_at : Table → List ℕ → Checked (ℕ × ℕ)
natural_at t s = taking (length (next_byte t s)) (natural_of t (next_byte t s))

-- what the numeral of an option shows at once, what follows its byte being s
abbrev pub shown_at : ℕ → List ℕ → Short
shown_at e s = cond (ltb e 192) Short.Missing (cond (leb 248 e) Short.Long (short_of (digits s)))

-- one byte more is taken
abbrev pub one_more : Checked (ℕ × ℕ) → Checked (ℕ × ℕ)
one_more c = c >>= λ r. accepted (r.0, r.1 + 1)

-- ---- what the answers say
-- the operand, and how many bytes are taken
abbrev pub pair_of : Operand → ℕ × ℕ
pair_of x = (x.value, x.taken)

-- the answer on s, which follows X
abbrev pub behind_of : Table → Result Behind Refusal → List ℕ → Checked (ℕ × ℕ)
behind_of t (Err r) s = refused (refusal_number r)
behind_of t (Ok (Behind.By x)) s = accepted (pair_of x)
behind_of t (Ok (Behind.Numeral o)) s = one_more (operand_at t (entry_at o.entry) (drop 1 s))

-- a byte stands behind X, where an option with a numeral does
abbrev pub NumeralBehind : Result Behind Refusal → List ℕ → Type 0
NumeralBehind (Err r) s = Unit {0}
NumeralBehind (Ok (Behind.By x)) s = Unit {0}
NumeralBehind (Ok (Behind.Numeral o)) s = 0 < length s
