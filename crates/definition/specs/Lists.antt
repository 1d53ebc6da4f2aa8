-- "The value list": fields of a one-byte tag, a two-byte length (big-endian) and content.
use Rattle.std.specs.Prelude.{ℕ, zero, suc, ◌+◌, ◌-◌, cond, List, [], ◌∷◌, ◌++◌, reverse, leb, eqb, length, take, drop}
use Rattle.definition.specs.Answers.{Checked, refused, accepted, ◌>>=◌, ◌>>◌, require}
use Rattle.definition.specs.Bytes.{little, total, bits, signed}
use Rattle.definition.specs.Values.{Value, integer, float, text, other}

-- n bytes of v, and the number that bytes write, big-endian
abbrev pub big : ℕ → ℕ → List ℕ
big n v = reverse (little n v)

abbrev pub big_total : List ℕ → ℕ
big_total s = total (reverse s)

-- ---- the list of values

abbrev pub tag : Value → ℕ
tag other = 0
tag (integer z) = 1
tag (float b) = 2
tag (text s) = 3

abbrev pub content : Value → List ℕ
content other = []
content (integer z) = big 8 (bits z)
content (float b) = big 8 b
content (text s) = s

unfoldable pub list_of : List Value → List ℕ
list_of [] = []
list_of (v ∷ vs) = tag v ∷ (big 2 (length (content v)) ++ (content v ++ list_of vs))

-- ---- the values of a list; 21 where it is malformed

-- the value of a tag and a content
abbrev pub value_of : ℕ → List ℕ → Checked Value
value_of t c =
    cond (eqb t 0) (require (eqb (length c) 0) 21 >> accepted other)
    (cond (eqb t 1) (require (eqb (length c) 8) 21 >> accepted (integer (signed 8 (big_total c))))
    (cond (eqb t 2) (require (eqb (length c) 8) 21 >> accepted (float (big_total c)))
    (cond (eqb t 3) (accepted (text c)) (refused 21))))

-- the first n bytes, or the refusal k
abbrev pub front : ℕ → ℕ → List ℕ → Checked (List ℕ)
front k n s = require (leb n (length s)) k >> accepted (take n s)

-- the field of the tag t, whose other bytes s begins with: its value, and how many bytes it has after its tag
unfoldable pub field_of : ℕ → List ℕ → Checked (Value × ℕ)
field_of t s = do
  l ← front 21 2 s
  c ← front 21 (big_total l) (drop 2 s)
  v ← value_of t c
  accepted (v, 2 + big_total l)

-- the values of a list whose first k bytes belong to the field before
unfoldable pub values_past : ℕ → List ℕ → Checked (List Value)
values_past zero [] = accepted []
values_past zero (t ∷ s) = field_of t s >>= λ f. values_past f.1 s >>= λ vs. accepted (f.0 ∷ vs)
values_past (suc k) [] = accepted []
values_past (suc k) (b ∷ s) = values_past k s

abbrev pub values : List ℕ → Checked (List Value)
values l = values_past 0 l

-- the list after its first k fields
unfoldable pub fields_after : ℕ → List ℕ → List ℕ
fields_after zero l = l
fields_after (suc k) [] = []
fields_after (suc k) (t ∷ s) = fields_after k (drop (2 + big_total (take 2 s)) s)

-- where that list starts
abbrev pub offset_after : ℕ → List ℕ → ℕ
offset_after k l = length l - length (fields_after k l)
