-- What the code's values and fields mean, in the definition's terms.
use Rattle.std.specs.Prelude.{ℕ, ◌+◌, ◌≤◌, ◌<◌, ◌≡◌, Bool, true, false, not, cond, ◌||◌, List, [], ◌∷◌, T, eqb, length, take, drop, get_or, Some, None}
use Rattle.std.specs.Prelude as rust
use Rattle.std.specs.Borrow.{Bor}
use Rattle.std.proofs.Math.Option.{Option, none, some}
use Rattle.std.specs.Float.{binary64}
use Rattle.std.specs.Float.Ieee.{to_bits, is_nan, nan_bits}
use lib.Dec.{T_prop}
use mathlib.Core.Path.{refl}
use Rattle.definition.specs.Answers.{Checked, refused, accepted, ◌>>=◌}
use Rattle.definition.specs.Values as definition
use Rattle.definition.specs.Values.{integer, float, text, other}
use Rattle.definition.specs.Lists.{big_total, field_of}
use Rattle.values.specs.declared.Value.{Value}
use Rattle.values.specs.declared.Value.TheVariants.{Integer, Float, NotANumber, Text, Other}

-- ---- values

-- what a value of the list l is
abbrev pub meaning : List ℕ → Value → definition.Value
meaning l (Integer z) = integer z
meaning l (Float x) = float (to_bits binary64 x)
meaning l (NotANumber b) = float b
meaning l (Text start n) = text (take n (drop start l))
meaning l Other = other

-- a Float is no NaN, and a NotANumber is one
abbrev pub Proper : Value → Type 0
Proper (Integer z) = Unit {0}
Proper (Float x) = T (not (is_nan x))
Proper (NotANumber b) = T (nan_bits binary64 b)
Proper (Text start n) = Unit {0}
Proper Other = Unit {0}

pub proper_prop : (v : Value) → IsProp (Proper v)
proper_prop (Integer z) = λ a b. refl
proper_prop (Float x) = T_prop (not (is_nan x))
proper_prop (NotANumber n) = T_prop (nan_bits binary64 n)
proper_prop (Text start n) = λ a b. refl
proper_prop Other = λ a b. refl

-- a Text lies inside the list l, and two bytes can say its length
abbrev pub Inside : List ℕ → Value → Type 0
Inside l (Integer z) = Unit {0}
Inside l (Float x) = Unit {0}
Inside l (NotANumber b) = Unit {0}
Inside l (Text start n) = (start + n ≤ length l) × (n ≤ 65535)
Inside l Other = Unit {0}

-- r is the float of the bits b, in any list
pub record FloatRead (b : ℕ) (r : Value) : Type 0 where
  pub says : (l : List ℕ) → meaning l r ≡ float b
  pub proper : Proper r
  pub inside : (l : List ℕ) → Inside l r

-- ---- fields

-- a field's value, and the offset after it; no field at the end; 21 for one that is malformed
abbrev pub Standing : Type 0
Standing = Option (Checked (definition.Value × ℕ))

-- a field whose tag stands at an offset, with the offset after it in place of the number of its bytes after the tag
abbrev pub placed : ℕ → Checked (definition.Value × ℕ) → Checked (definition.Value × ℕ)
placed at f = f >>= λ g. accepted (g.0, at + 1 + g.1)

-- the field that a list begins with, whose first byte stands at an offset
abbrev pub first_field : ℕ → List ℕ → Standing
first_field at [] = none
first_field at (t ∷ s) = some (placed at (field_of t s))

-- the field at an offset of a list
unfoldable pub field_at : List ℕ → ℕ → Standing
field_at l at = first_field at (drop at l)

-- what the code's answer says of the list l
abbrev pub answer : List ℕ → rust.Option (Value × ℕ) → Standing
answer l (Some (v, next)) = some (accepted (meaning l v, next))
answer l None = none

-- what else is so of a field that is found at an offset of l
pub record Sound (l : List ℕ) (at : ℕ) (v : Value) (next : ℕ) : Type 0 where
  pub behind : at < next
  pub within : next ≤ length l
  pub proper : Proper v
  pub inside : Inside l v

abbrev pub SoundField : List ℕ → ℕ → rust.Option (Value × ℕ) → Type 0
SoundField l at (Some (v, next)) = Sound l at v next
SoundField l at None = Unit {0}

-- the length of content that the first field of l says
abbrev pub size_of : List ℕ → ℕ
size_of l = big_total (take 2 (drop 1 l))

-- the first field of l, its content and all, has the tag t and the content c, and r is the list behind it
pub record First (l : List ℕ) (t : ℕ) (c r : List ℕ) : Type 0 where
  pub within : 3 + size_of l ≤ length l
  pub tag : t ≡ get_or l 0 0
  pub content : c ≡ take (size_of l) (drop 3 l)
  pub behind : r ≡ drop (3 + size_of l) l

-- what the code says of it: these, or that l ends before
abbrev pub FirstRead : List ℕ → rust.Option (ℕ × Bor (List ℕ) × Bor (List ℕ)) → Type 0
FirstRead l (Some (t, c, r)) = First l t c.now r.now
FirstRead l None = length l < 3 + size_of l

-- the tag of a number
abbrev pub numeric : ℕ → Bool
numeric t = eqb t 1 || eqb t 2

-- a content of n bytes suits the tag t
abbrev pub suits : ℕ → ℕ → Bool
suits t n = cond (eqb t 0) (eqb n 0) (cond (numeric t) (eqb n 8) (eqb t 3))

-- r is the field at an offset of l
pub record FieldRead (l : List ℕ) (at : ℕ) (r : rust.Option (Value × ℕ)) : Type 0 where
  pub says : answer l r ≡ field_at l at
  pub sound : SoundField l at r

-- ---- whole lists

-- whether an answer is accepted
abbrev pub is_accepted : {A : Type 0} → Checked A → Bool
is_accepted (refused k) = false
is_accepted (accepted a) = true
