-- What a caller sees of a call under its C name: the number that it returns, the words of its answer, and its result buffer.
use Rattle.std.specs.Prelude.{ℕ, not, cond, List, [], ◌∷◌, eqb}
use Rattle.definition.specs.Answers.{Checked, refused, accepted}
use Rattle.definition.specs.States.{state}
use Rattle.definition.specs.Calls.{Call}
use Rattle.definition.specs.Trays.{TrayCall}
use Rattle.definition.specs.declared.State.{State}
use Rattle.definition.specs.declared.Continued.{Continued}
use Rattle.definition.specs.declared.Unpacked.{Unpacked}
use Rattle.calendar.specs.declared.Date.{Date}
use Rattle.lengths.specs.declared.Range.{Range}

-- the number returned, and what the answer's array then holds: 0 and the answer's words, or the refusal's number and what the array held before. No refusal has the number 0 (`Numbered` of laws' Claims).
abbrev pub told : {A : Type 0} → (A → List ℕ) → List ℕ → Checked A → ℕ × List ℕ
told words before (refused k) = (k, before)
told words before (accepted a) = (0, words a)

-- the same, with what the lent result buffer then holds
abbrev pub told_with : {A : Type 0} → (A → List ℕ) → List ℕ → Call A → (ℕ × List ℕ) × List ℕ
told_with words before c = (told words before c.answer, c.buffer)

-- ---- the words of an answer

abbrev pub word : ℕ → List ℕ
word n = n ∷ []

abbrev pub continued_words : Continued → List ℕ
continued_words c = cond c.next.big 1 0 ∷ c.next.limit ∷ c.next.length ∷ c.written ∷ c.used ∷ c.items ∷ []

abbrev pub unpacked_words : Unpacked → List ℕ
unpacked_words u = u.length ∷ u.next.0 ∷ []

abbrev pub range_words : Range → List ℕ
range_words r = r.least ∷ r.greatest ∷ []

abbrev pub date_words : Date → List ℕ
date_words d = d.year ∷ d.month ∷ d.day ∷ []

-- ---- a tray's place

-- what a call on a tray tells, and the word that then says the place of the record that is refused, or 0
abbrev pub told_at : List ℕ → TrayCall → ((ℕ × List ℕ) × List ℕ) × List ℕ
told_at before t = (told_with word before t.call, word t.place)

-- ---- arguments

-- a state: the order 0 is little, and every other number is big
abbrev pub state_of : ℕ → ℕ → ℕ → State
state_of order limit length = state (not (eqb order 0)) limit length
