-- The length of a field, and the list of values in parts.
use Prim.Native.Nat.{ℕ, ◌+◌}
use native.Mathlib.Omega.{arith}
use mathlib.Core.Path.{◌≡◌, refl}
use mathlib.Core.List.{List, [], ◌∷◌, ◌++◌, append_assoc}
use lib.ListN.{length, take, length-drop}
use lib.Seq.{length-take-le}
use Rattle.definition.specs.Bytes.{bits}
use Rattle.definition.specs.Values.{Value, integer, float, text}
use Rattle.definition.specs.Lists.{big, content, list_of}
use Rattle.laws.proofs.Lists.{length_big, length_list}
use Rattle.decode.specs.Readings.{from, value_of, Inside}
use Rattle.decode.specs.declared.Reading.{Reading}
use Rattle.decode.specs.declared.Reading.TheVariants.{Integer, Float, Text}
use Rattle.read_pass.specs.Runs.{size_of}

pub list_parts : (x y : List Value) → list_of (x ++ y) ≡ list_of x ++ list_of y
unfolding list_of
list_parts [] y = refl
list_parts (v ∷ x) y =
    let n : ℕ = length (content v) in
    rw (list_parts x y, ← append_assoc (content v) (list_of x) (list_of y), ← append_assoc (big 2 n) (content v ++ list_of x) (list_of y))

pub no_values : length (list_of []) ≡ 0
unfolding list_of
no_values = refl

one_value : (v : Value) (n : ℕ) → length (content v) ≡ n → length (list_of (v ∷ [])) ≡ 3 + n
one_value v n e = omega (arith, length_list v [], no_values, e)

-- a value has the length that is counted for it
pub size_is : (d : List ℕ) (r : Reading) → Inside d r → length (list_of (value_of d r ∷ [])) ≡ size_of r
size_is d (Integer z) h = one_value (integer z) 8 (length_big 8 (bits z))
size_is d (Float b) h = one_value (float b) 8 (length_big 8 b)
size_is d (Text t) h =
    let s : List ℕ = from d t.start in
    one_value (text (take t.size s)) t.size (length-take-le t.size s (omega (arith, length-drop t.start.0 d, h)))
