-- What the readers of a numeral answer.
use Rattle.std.specs.Prelude.{ℕ, ◌+◌, ◌*◌, ◌-◌, ◌^◌, Bool, false, cond, List, [], ◌∷◌, ltb, eqb, length, Option, Some, None, Result, Ok, Err}
use Prim.Native.Char.{code}
use Rattle.definition.specs.Items.{is_digit, value}
use Rattle.definition.specs.Items as items
use Rattle.definition.specs.declared.Refusal.{Refusal}
use Rattle.numeral.specs.declared.Numeral.{Numeral}
use Rattle.numeral.specs.declared.Short.{Short}

-- s begins with a digit
abbrev pub digit_first : List ℕ → Bool
digit_first [] = false
digit_first (b ∷ s) = is_digit b

-- the number m that a digit made
abbrev pub grown : ℕ → Result (Option ℕ) Refusal
grown m = cond (ltb m (2 ^ 64)) (Ok (Some m)) (Err Refusal.NumeralTooLarge)

-- the first digit of s, after those that made n
unfoldable pub digit_on : ℕ → List ℕ → Result (Option ℕ) Refusal
digit_on n [] = Ok None
digit_on n (b ∷ s) = cond (is_digit b) (grown (n * 10 + (b - code "0"))) (Ok None)

-- a numeral's value, and the place after its digits
abbrev pub numeral : ℕ → ℕ → Numeral
numeral v i = record { value = v; end = i }

-- the digits ds at a place, after those that made n
unfoldable pub read_on : ℕ → ℕ → List ℕ → Result Numeral Refusal
read_on n at ds = cond (ltb (value n ds) (2 ^ 64)) (Ok (numeral (value n ds) (at + length ds))) (Err Refusal.NumeralTooLarge)

-- the number and the place that are reached, unless the number is too large
abbrev pub reached : {A : Type 0} → Option A → ℕ → ℕ → Result Numeral Refusal
reached (Some u) n at = Ok (numeral n at)
reached None n at = Err Refusal.NumeralTooLarge

-- a numeral, and the place after its digits
abbrev pub read_of : items.Numeral → ℕ → Result (Option Numeral) Refusal
read_of items.Numeral.Missing i = Ok None
read_of items.Numeral.TooLarge i = Err Refusal.NumeralTooLarge
read_of (items.Numeral.Value v) i = Ok (Some (numeral v i))

-- what the digits ds show at once
abbrev pub short_of : List ℕ → Short
short_of [] = Short.Missing
short_of (d ∷ []) = cond (eqb d (code "0")) Short.Long (Short.Digit (d - code "0"))
short_of (d ∷ e ∷ ds) = Short.Long
