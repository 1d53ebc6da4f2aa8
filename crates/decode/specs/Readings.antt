-- What a field's bytes give, in the definition's terms.
use Rattle.std.specs.Prelude.{ℕ, ◌+◌, ◌≤◌, ◌<◌, ◌≡◌, Bool, List, length, take, drop, Result, Ok, Err, IfOk}
use Rattle.definition.specs.Refusals.{answer_by}
use Rattle.definition.specs.Values.{Value, integer, float, text}
use Rattle.definition.specs.Fields.{decode}
use Rattle.definition.specs.declared.Offset.{Offset}
use Rattle.definition.specs.declared.Refusal.{Refusal}
use Rattle.definition.specs.declared.Refusal.TheVariants.{TextAbove65535}
use Rattle.definition.specs.declared.Field.{Field}
use Rattle.decode.specs.declared.Reading.{Reading}
use Rattle.decode.specs.declared.Reading.TheVariants.{Integer, Float, Text}
use Rattle.decode.specs.declared.Decoded.{Decoded}

-- ---- what is read of the data d

-- the bytes of d from an offset on
abbrev pub from : List ℕ → Offset → List ℕ
from d o = drop o.0 d

-- an offset of d: at most its length
abbrev pub Within : List ℕ → Offset → Type 0
Within d o = o.0 ≤ length d

abbrev pub value_of : List ℕ → Reading → Value
value_of d (Integer z) = integer z
value_of d (Float b) = float b
value_of d (Text t) = text (take t.size (from d t.start))

-- a text lies inside the data
abbrev pub Inside : List ℕ → Reading → Type 0
Inside d (Integer z) = Unit {0}
Inside d (Float b) = Unit {0}
Inside d (Text t) = t.start.0 + t.size ≤ length d

-- ---- fields

-- the definition's value, and the number of bytes
abbrev pub decoded_in : List ℕ → Decoded → Value × ℕ
decoded_in d x = (value_of d x.reading, x.size)

-- r is what a field's bytes at an offset of d give, in a byte order
pub record Decodes (d : List ℕ) (at : Offset) (big : Bool) (f : Field) (r : Result Decoded Refusal) : Type 0 where
  pub says : answer_by (decoded_in d) r ≡ decode big f (from d at)
  pub inside : IfOk r (λ x. Inside d x.reading × (at.0 + x.size ≤ length d))

-- ---- texts

-- x is the text of n bytes from an offset, where m bytes are read
pub record TextIs (at : Offset) (n m : ℕ) (x : Decoded) : Type 0 where
  pub fits : n ≤ 65535
  pub is : x ≡ record { reading = Text (record { start = at; size = n; short = fits }); size = m }

-- what the code answers: the text, or the refusal of a longer one
abbrev pub TextOf : Offset → ℕ → ℕ → Result Decoded Refusal → Type 0
TextOf at n m (Ok x) = TextIs at n m x
TextOf at n m (Err e) = (65535 < n) × (e ≡ TextAbove65535)
