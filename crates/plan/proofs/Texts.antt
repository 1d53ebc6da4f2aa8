-- The bytes of a text option are what the definition encodes, and without a text there are 11 and 12.
use Prim.Native.Nat.{ℕ, ◌+◌, ◌-◌, ◌^◌, ◌≤◌, ◌<◌}
use native.Mathlib.Omega.{arith}
use mathlib.Core.Path.{◌≡◌, refl, sym, ap}
use mathlib.Core.Bool.{Bool, true, false}
use mathlib.Core.List.{List}
use mathlib.Core.Option.{none}
use Rattle.std.specs.Prelude.{Result, Err, Some, None}
use lib.Dec.{ltb}
use lib.ListN.{length, take, drop, replicate, length-append, length-drop, length-replicate}
use lib.Seq.{length-take-le}
use borrow.Author.Tests.{le-leb, lt-leb, lt-ltb}
use Rattle.definition.specs.Answers.{refused, accepted, or_else}
use Rattle.definition.specs.Bytes.{laid}
use Rattle.definition.specs.Values as definition
use Rattle.definition.specs.Values.{text, as_bytes}
use Rattle.definition.specs.Fields.{encode, has_zero}
use Rattle.definition.specs.declared.Field.{Field}
use Rattle.definition.specs.declared.Refusal.{Refusal}
use Rattle.laws.proofs.Bytes.{pow_le, length_laid}
use Rattle.values.specs.Meaning.{meaning, FieldRead}
use Rattle.values.specs.declared.Value.{Value}
use Rattle.values.specs.declared.reader.Reader.{Reader}
use Rattle.plan.specs.Texts.{first_text, TextRead}
use Rattle.plan.proofs.Places.{none_left, first}
use Rattle.store.specs.Texts.{text_bytes, counted_bytes}

-- ---- no text at the list's field
module _ (r : Reader) where
  pub text_none : {e : Refusal} → FieldRead r.list.now r.at None → ◌≡◌ {A = Result (Value × ℕ) Refusal} (Err e) (Err Refusal.NoValueLeft) → TextRead r (Err e)
  text_none {e} h same =
      let is : e ≡ Refusal.NoValueLeft = cc in
      rw is (ap first_text (none_left r h))

  pub text_other : {v : Value} {next : ℕ} → FieldRead r.list.now r.at (Some (v, next)) → ((start n : ℕ) → v ≡ Value.Text start n → ⊥) → TextRead r (Err Refusal.WrongKind)
  text_other {v} h other = rw ((first r h).is, none_of v other)
    where
      none_of : (v : Value) → ((start n : ℕ) → v ≡ Value.Text start n → ⊥) → as_bytes (meaning r.list.now v) ≡ none
      none_of (Value.Text start n) other = absurd (other start n refl)
      none_of (Value.Integer z) other = refl
      none_of (Value.Float x) other = refl
      none_of (Value.NotANumber b) other = refl
      none_of Value.Other other = refl

-- ---- the text of a list's field
abbrev bytes_of : List ℕ → ℕ → ℕ → List ℕ
bytes_of l start n = take n (drop start l)

module _ {l : List ℕ} {at start n next : ℕ} (x : FieldRead l at (Some (Value.Text start n, next))) where
  -- how many bytes it has
  size : length (bytes_of l start n) ≡ n
  size = length-take-le n (drop start l) (omega (arith, length-drop start l, x.sound.inside.0))

  pub text_length : (zeros : ℕ) → length (text_bytes l start n zeros) ≡ n + zeros
  text_length zeros = omega (arith, length-append (bytes_of l start n) (replicate zeros 0), size, length-replicate {A = ℕ} zeros 0)

  pub counted_length : (o : Bool) (k : ℕ) → length (counted_bytes o l k start n) ≡ k + n
  counted_length o k = omega (arith, length-append (laid o k n 0) (bytes_of l start n), length_laid o k n 0, size)

  -- what the definition encodes of it, or refuses
  module _ (o : Bool) where
    pub chars_long : (m : ℕ) → m < n → encode o (Field.Chars m) (text (bytes_of l start n)) ≡ refused 15
    unfolding encode
    chars_long m h = rw (size, lt-leb n m h)

    pub chars_bytes : (m : ℕ) → n ≤ m → encode o (Field.Chars m) (text (bytes_of l start n)) ≡ accepted (text_bytes l start n (m - n))
    unfolding encode
    chars_bytes m h = rw (size, le-leb n m h)

    pub zero_ended_zero : has_zero (bytes_of l start n) ≡ true → encode o Field.ZeroEnded (text (bytes_of l start n)) ≡ refused 14
    unfolding encode
    zero_ended_zero h = rw h

    pub zero_ended_bytes : has_zero (bytes_of l start n) ≡ false → encode o Field.ZeroEnded (text (bytes_of l start n)) ≡ accepted (text_bytes l start n 1)
    unfolding encode
    zero_ended_bytes h = rw h

    pub counted_long : (m : ℕ) → ltb n (256 ^ m) ≡ false → encode o (Field.Counted m) (text (bytes_of l start n)) ≡ refused 15
    unfolding encode
    counted_long m h = rw (size, h)

    pub counted_bytes_lem : (m : ℕ) → ltb n (256 ^ m) ≡ true → encode o (Field.Counted m) (text (bytes_of l start n)) ≡ accepted (counted_bytes o l m start n)
    unfolding encode
    counted_bytes_lem m h = rw (size, h)

-- two bytes or more say the length of every text of a list
pub count_more : (m n : ℕ) → 1 ≤ m → n ≤ 65535 → (m ≡ 1 → ⊥) → true ≡ ltb n (256 ^ m)
count_more m n w h other_size = sym (lt-ltb n (256 ^ m) (omega (arith, pow_le 2 m (omega (arith, w, other_size)))))

-- ---- no text
abbrev pub TextField : Field → Type 0
TextField (Field.Number k n) = ⊥
TextField (Field.Chars n) = Unit {0}
TextField Field.ZeroEnded = Unit {0}
TextField (Field.Counted n) = Unit {0}

pub no_text : (o : Bool) (f : Field) (v : definition.Value) (k : ℕ) → TextField f → or_else (as_bytes v) (refused 12) ≡ refused k → encode o f v ≡ refused k
unfolding encode
no_text o (Field.Number j n) v k t e = absurd t
no_text o (Field.Chars n) v k t e = rw e
no_text o Field.ZeroEnded v k t e = rw e
no_text o (Field.Counted n) v k t e = rw e
