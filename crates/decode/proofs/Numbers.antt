-- What a number reads is what the definition decodes.
use Prim.Native.Nat.{ℕ, ◌^◌, ◌<◌}
use native.Mathlib.Omega.{arith}
use mathlib.Core.Path.{◌≡◌, refl, sym, ap, ◌∙◌}
use mathlib.Core.Bool.{Bool}
use mathlib.Core.Logic.{◌⊎◌, inl, inr}
use mathlib.Core.List.{List}
use lib.IntN.{ℤ}
use lib.ListN.{length, take}
use lib.Seq.{take-take}
use Rattle.std.specs.Prelude.{Option, Some, None, Result, Ok, Err}
use Rattle.std.specs.Option.{ok_or}
use Rattle.single.specs.Single.{from_single}
use Rattle.definition.specs.Answers.{Checked, refused, accepted, ◌>>=◌}
use Rattle.definition.specs.Bytes.{total, signed, low}
use Rattle.definition.specs.Values.{Value, integer, float}
use Rattle.definition.specs.Fields.{number, unsigned, value_by, decode}
use Rattle.definition.specs.declared.Kind.{Kind}
use Rattle.definition.specs.declared.Kind.TheVariants.{SmallSigned, SmallUnsigned, Signed, Unsigned, LuaInteger, LuaUnsigned, Size, Single, Double}
use Rattle.definition.specs.declared.Offset.{Offset}
use Rattle.definition.specs.declared.Field.{Field}
use Rattle.definition.specs.declared.Refusal.{Refusal}
use Rattle.definition.specs.Refusals.{refusal_number}
use Rattle.words.specs.Digits.{low_bytes}
use Rattle.load.specs.Numbers.{unsigned_at, signed_at}
use Rattle.load.proofs.Parts.{word_part, unsigned_part, signed_part}
use Rattle.laws.proofs.Bytes.{number_is}
use Rattle.decode.specs.Readings.{from, value_of, Inside, Decodes}
use Rattle.decode.specs.Rests.{split}
use Rattle.decode.proofs.Rests.{Taken, split_refused}
use Rattle.decode.specs.declared.Reading.{Reading}
use Rattle.decode.specs.declared.Reading.TheVariants.{Integer, Float}
use Rattle.decode.specs.declared.Decoded.{Decoded}

pub bind_bind : {A B C : Type 0} (c : Checked A) (f : A → Checked B) (g : B → Checked C) → ((c >>= f) >>= g) ≡ (c >>= λ a. f a >>= g)
bind_bind (refused k) f g = refl
bind_bind (accepted a) f g = refl

-- `ok_or` refuses as it is told, and then nothing is there
pub none_of : {A : Type 0} {o : Option A} {e r : Refusal} → Err e ≡ ok_or o r → (o ≡ None) × (e ≡ r)
none_of {o = None} q = (refl, grind arith)
none_of {o = Some x} {e} {r} q = absurd (go q)
  where
    go : Err e ≡ Ok x → ⊥
    go h = grind arith

-- the value of a number of n bytes at the front of s
abbrev number_at : Bool → Kind → ℕ → List ℕ → Checked Value
number_at o k n s = number o n s >>= λ r. value_by k n r.0 r.1

decode_number : (o : Bool) (k : Kind) (n : ℕ) (s : List ℕ) → decode o (Field.Number k n) s ≡ (number_at o k n s >>= λ v. accepted (v, n))
unfolding decode
decode_number o k n s = sym (bind_bind (number o n s) (λ r. value_by k n r.0 r.1) (λ v. accepted (v, n)))

-- the integer of an unsigned one
abbrev as_integer : Checked ℕ → Checked Value
as_integer c = c >>= λ w. accepted (integer (signed 8 w))

-- at an offset of the data d, n bytes, in the byte order o
module _ (o : Bool) {d : List ℕ} {at : Offset} {n : ℕ} where
  pub number_ended : (k : Kind) {r : Refusal} → refused (refusal_number r) ≡ split d at n → Decodes d at o (Field.Number k n) (Err r)
  unfolding decode number
  number_ended k e = record { says = rw (split_refused d at n e); inside = tt }

  number_refused : (k : Kind) {r : Refusal} → refused (refusal_number r) ≡ number_at o k n (from d at) → Decodes d at o (Field.Number k n) (Err r)
  number_refused k e = record { says = rw (decode_number o k n (from d at), ← e); inside = tt }

  -- b are the bytes that are read
  module _ {b : List ℕ} {r : List ℕ × Offset} (g : Taken d at n b r) where
    number_read : (k : Kind) (v : Value) (x : Reading) → accepted v ≡ number_at o k n (from d at) → value_of d x ≡ v → Inside d x
        → Decodes d at o (Field.Number k n) (Ok (record { reading = x; size = n }))
    number_read k v x e f i = record { says = rw (decode_number o k n (from d at), ← e, f); inside = (i, g.fits) }

    signed_is : signed_at o (length b) b ≡ number_at o Signed n (from d at)
    signed_is = rw g.bytes (signed_part o n at.0 n d refl g.fits)

    pub signed_wide : refused 18 ≡ signed_at o (length b) b → Decodes d at o (Field.Number Signed n) (Err Refusal.IntegerTooWide)
    signed_wide e = number_refused Signed (e ∙ signed_is)

    pub signed_read : {y z : ℤ} → y ≡ z → accepted (integer z) ≡ signed_at o (length b) b → Decodes d at o (Field.Number Signed n) (Ok (record { reading = Integer y; size = n }))
    signed_read q e = number_read Signed _ (Integer _) (e ∙ signed_is) (ap integer q) tt

    unsigned_is : as_integer (unsigned_at o (length b) b) ≡ number_at o Unsigned n (from d at)
    unsigned_is =
        rw g.bytes
        (ap as_integer (unsigned_part o n at.0 n d refl g.fits)
        ∙ bind_bind (number o n (from d at)) (λ r. unsigned r.0 r.1) (λ w. accepted (integer (signed 8 w))))

    pub unsigned_wide : refused 18 ≡ unsigned_at o (length b) b → Decodes d at o (Field.Number Unsigned n) (Err Refusal.IntegerTooWide)
    unsigned_wide e = number_refused Unsigned (ap as_integer e ∙ unsigned_is)

    pub unsigned_read : {y : ℤ} (w : ℕ) → y ≡ signed 8 w → accepted w ≡ unsigned_at o (length b) b → Decodes d at o (Field.Number Unsigned n) (Ok (record { reading = Integer y; size = n }))
    unsigned_read w q e = number_read Unsigned (integer (signed 8 w)) (Integer _) (ap as_integer e ∙ unsigned_is) (ap integer q) tt

    -- u is the word that is loaded of m of them, which are all
    module _ {m u : ℕ} (p : m ≡ n) (w : (u ≡ total (low_bytes o (length (take m b)) (take m b))) × (u < 256 ^ low (length (take m b)))) where
      part_is : take m b ≡ take m (from d at)
      part_is = rw g.bytes (take-take m n (from d at) (omega (arith, p)))

      word_is : (u ≡ total (low_bytes o n (from d at))) × (u < 256 ^ low n)
      word_is = word_part o n at.0 m d p g.fits (rw part_is at w)

      pub single_read : {x : ℕ} → x ≡ from_single u → Decodes d at o (Field.Number Single n) (Ok (record { reading = Float x; size = n }))
      single_read {x} q = number_read Single (float (from_single u)) (Float x) (rw (number_is o n at.0 d g.fits, word_is.0)) (rw q) tt

      pub double_read : Decodes d at o (Field.Number Double n) (Ok (record { reading = Float u; size = n }))
      double_read = number_read Double (float u) (Float u) (rw (number_is o n at.0 d g.fits, word_is.0)) refl tt

-- ---- by the kind

-- kinds that are read alike
abbrev Alike : Kind → Kind → Type 0
Alike j k = (o : Bool) (n : ℕ) (s : List ℕ) → decode o (Field.Number j n) s ≡ decode o (Field.Number k n) s

-- b h i l j
pub signed_kind : {k : Kind} → (k ≡ SmallSigned) ⊎ ((k ≡ LuaInteger) ⊎ (k ≡ Signed)) → Alike Signed k
unfolding decode
signed_kind (inl e) = λ o n s. rw e refl
signed_kind (inr (inl e)) = λ o n s. rw e refl
signed_kind (inr (inr e)) = λ o n s. rw e refl

-- B H I L J T
pub unsigned_kind : {k : Kind} → (k ≡ SmallUnsigned) ⊎ ((k ≡ LuaUnsigned) ⊎ ((k ≡ Size) ⊎ (k ≡ Unsigned))) → Alike Unsigned k
unfolding decode
unsigned_kind (inl e) = λ o n s. rw e refl
unsigned_kind (inr (inl e)) = λ o n s. rw e refl
unsigned_kind (inr (inr (inl e))) = λ o n s. rw e refl
unsigned_kind (inr (inr (inr e))) = λ o n s. rw e refl

-- what one kind reads, another reads that is read alike
pub alike : {d : List ℕ} {at : Offset} {o : Bool} {n : ℕ} {k j : Kind} {r : Result Decoded Refusal} → Alike j k → Decodes d at o (Field.Number j n) r → Decodes d at o (Field.Number k n) r
alike {d} {at} {o} {n} a p = record { says = p.says ∙ a o n (from d at); inside = p.inside }
