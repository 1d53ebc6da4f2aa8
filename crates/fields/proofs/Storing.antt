-- The fields in the definition's terms.
use Prim.Native.Nat.{ℕ}
use mathlib.Core.Path.{◌≡◌}
use mathlib.Core.List.{List, [], ◌∷◌, ◌++◌, append-nil}
use lib.IntN.{ℤ}
use lib.ListN.{length}
use Rattle.definition.specs.Bytes.{bits}
use Rattle.definition.specs.Lists.{big, list_of}
use Rattle.definition.specs.Values.{integer, float, text}
use Rattle.laws.proofs.Lists.{length_big}

pub integer_field : (z : ℤ) (w : ℕ) → w ≡ bits z → 1 ∷ big 2 8 ++ big 8 w ≡ list_of (integer z ∷ [])
unfolding list_of
integer_field z w e = rw (e, length_big 8 (bits z), append-nil (big 8 (bits z)))

pub float_field : (b : ℕ) → 2 ∷ big 2 8 ++ big 8 b ≡ list_of (float b ∷ [])
unfolding list_of
float_field b = rw (length_big 8 b, append-nil (big 8 b))

pub text_field : (s : List ℕ) → 3 ∷ big 2 (length s) ++ s ≡ list_of (text s ∷ [])
unfolding list_of
text_field s = rw (append-nil s)
