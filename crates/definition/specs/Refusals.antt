-- "Turned-down calls, by who causes them": the numbers of refusals.
use Rattle.std.specs.Prelude.{ℕ, Bool, false, ◌||◌, List, [], ◌∷◌, eqb, Result, Ok, Err}
use Rattle.definition.specs.Answers.{Checked, refused, accepted}
use Rattle.definition.specs.declared.Refusal.{Refusal}

-- what each one says is in document 01; the checks that give it are in the definitions
abbrev pub refusals : List ℕ
refusals =
    -- "Profile author"
    1 ∷ 2 ∷ 3 ∷ 4 ∷ 5 ∷ 6 ∷ 7 ∷ 8 ∷ 9 ∷ 10
    -- "Supplier of values"
    ∷ 11 ∷ 12 ∷ 13 ∷ 14 ∷ 15
    -- "Card data"
    ∷ 16 ∷ 17 ∷ 18 ∷ 19 ∷ 20
    -- "Host program"
    ∷ 21 ∷ 22
    -- document 02: "Numbers added here and below join 01's list."
    ∷ 23 ∷ 24 ∷ 25 ∷ 26 ∷ 27
    ∷ []

-- k is one of them
abbrev pub among : List ℕ → ℕ → Bool
among [] k = false
among (n ∷ ns) k = eqb k n || among ns k

-- ---- what the code answers: the number of each refusal, and the value of what is accepted

abbrev pub refusal_number : Refusal → ℕ
refusal_number Refusal.UnknownOption = 1
refusal_number Refusal.NumeralTooLarge = 2
refusal_number Refusal.SizeOutside = 3
refusal_number Refusal.LimitOutside = 4
refusal_number Refusal.LimitNoPower = 5
refusal_number Refusal.AlignmentNoPower = 6
refusal_number Refusal.MisplacedX = 7
refusal_number Refusal.MissingNumeral = 8
refusal_number Refusal.LengthTooLarge = 9
refusal_number Refusal.NoFixedSize = 10
refusal_number Refusal.NoValueLeft = 11
refusal_number Refusal.WrongKind = 12
refusal_number Refusal.OutOfRange = 13
refusal_number Refusal.ZeroInText = 14
refusal_number Refusal.TextDoesNotFit = 15
refusal_number Refusal.StartOutside = 16
refusal_number Refusal.DataEnd = 17
refusal_number Refusal.IntegerTooWide = 18
refusal_number Refusal.MissingZero = 19
refusal_number Refusal.TextAbove65535 = 20
refusal_number Refusal.Malformed = 21
refusal_number Refusal.ResultTooLong = 22
refusal_number Refusal.DamagedRun = 23
refusal_number Refusal.NoSuchDate = 24
refusal_number Refusal.DayTooLarge = 25
refusal_number Refusal.MonthsOutside = 26
refusal_number Refusal.LeastAboveGreatest = 27

-- an answer of the code, whose accepted values the definition has as f says
abbrev pub answer_by : {A B : Type 0} → (A → B) → Result A Refusal → Checked B
answer_by f (Ok a) = accepted (f a)
answer_by f (Err r) = refused (refusal_number r)

-- one whose accepted values are the definition's
abbrev pub answer_of : {A : Type 0} → Result A Refusal → Checked A
answer_of r = answer_by (λ a. a) r
