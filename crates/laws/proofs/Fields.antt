-- A field's value is read back as what is kept of it, and this is written again.
use Prim.Native.Nat.{ℕ}
use mathlib.Core.Path.{◌≡◌}
use mathlib.Core.Bool.{Bool, true, ◌&&◌}
use mathlib.Core.List.{List}
use lib.Dec.{T, leb}
use mir.Facts.{and_yes}
use Rattle.definition.specs.Answers.{accepted}
use Rattle.definition.specs.Ops.{within16}
use Rattle.definition.specs.Values.{Value, Held}
use Rattle.definition.specs.Fields.{encode}
use Rattle.laws.specs.Claims.{is_short, integer_for_j}
use Rattle.definition.specs.declared.Kind.{Kind}
use Rattle.definition.specs.declared.Field.{Field}
use Rattle.definition.specs.declared.Field.TheVariants.{Number, Chars, ZeroEnded, Counted}
use Rattle.laws.proofs.Numbers.{valid_size, number_back}
use Rattle.laws.proofs.Texts.{Returns, chars_back, zero_ended_back, counted_back}

-- a number has a size, which its kind has
abbrev pub valid_field : Field → Bool
valid_field (Number k n) = leb 1 n && valid_size k n
valid_field (Chars n) = true
valid_field ZeroEnded = true
valid_field (Counted n) = within16 n

pub number_size : (k : Kind) (n : ℕ) → T (valid_field (Number k n)) → T (valid_size k n)
number_size k n ok = (and_yes (leb 1 n) (valid_size k n) ok).1

pub field_back : (o : Bool) (f : Field) (v : Value) (bs : List ℕ) → T (valid_field f) → Held v → T (is_short f) → T (integer_for_j f v) → encode o f v ≡ accepted bs → Returns o f v bs
field_back o (Number k n) v bs ok held short j e = number_back o k n v bs (number_size k n ok) held j e
field_back o (Chars n) v bs ok held short j e = chars_back o n v bs held short e
field_back o ZeroEnded v bs ok held short j e = zero_ended_back o v bs held e
field_back o (Counted n) v bs ok held short j e = counted_back o n v bs held e
