-- The word of a value, by the kinds.
use Prim.Native.Nat.{ℕ, suc, ◌*◌, ◌-◌, ◌%◌, ◌^◌, ◌≤◌, ◌<◌}
use native.Mathlib.Omega.{arith}
use native.Mathlib.Nat.{pow-suc, one-mul, mod-eq_of_lt}
use lib.Pow.{pow-lt, pow_mono}
use mathlib.Core.Path.{◌≡◌, refl, sym, ap, ◌∙◌, subst}
use mathlib.Core.Bool.{Bool, true, false, cond}
use mathlib.Core.Logic.{◌⊎◌, inl, inr}
use mathlib.Core.Option.{Option, none, some}
use Rattle.std.specs.Prelude as rust
use Rattle.std.specs.Prelude.{Result, Ok, Err, IfOk}
use Rattle.std.specs.Option.{ok_or}
use lib.Dec.{T, leb, ltb}
use lib.IntN.{ℤ, pos, negsuc}
use lib.Signed.{lt_z, mag}
use lib.Ieee.{binary64, of_bits}
use mir.Syntax.{w64}
use mir.Val.{to_z, of_z, SFits}
use mir.Facts.{to_z-of_z}
use borrow.Author.Tests.{le-leb, lt-ltb, le-ltb, ltb-true, ltb-false}
use Rattle.definition.specs.Answers.{Checked, refused, accepted, ◌>>=◌, ◌>>◌, require, or_else}
use Rattle.definition.specs.Bytes.{bits, sign, extent, laid}
use Rattle.definition.specs.Values.{Value, integer, float, text, other, as_integer, as_number, wrapped}
use Rattle.definition.specs.Fields.{in_unsigned, float_by, word}
use Rattle.definition.specs.declared.Kind.{Kind}
use Rattle.definition.specs.declared.Kind.TheVariants.{SmallSigned, SmallUnsigned, Signed, Unsigned, LuaInteger, LuaUnsigned, Size, Single, Double}
use Rattle.definition.specs.Refusals.{refusal_number, answer_of}
use Rattle.definition.specs.declared.Refusal.{Refusal}
use Rattle.words.proofs.Twos.{extent_fits, positive}
use Rattle.laws.proofs.Numbers.{valid_size}
use Rattle.words.proofs.Placing.{bits_of_bytes}
use Rattle.single.specs.Single.{to_single}
use Rattle.numbers.specs.Meaning.{found, wrapped_float}
use Rattle.word.specs.Words.{fill_of, Says, in_range, ranged_or}

-- ---- the word of an integer, of a pattern, and of a refusal

fill_sign : (z : ℤ) → SFits w64 z → fill_of (bits z) ≡ sign z
fill_sign (pos n) f = ap (λ (t : Bool). cond t 0 255) (lt-ltb n (2 ^ 63) f.sfits)
fill_sign (negsuc n) f = ap (λ (t : Bool). cond t 0 255) (le-ltb (2 ^ 64 - 1 - n) (2 ^ 63) (omega (arith, f.sfits)))

pub says_integer : (n b : ℕ) (z : ℤ) {x : Checked ℤ} → mag z < 2 ^ 63 → b ≡ bits (to_z w64 (of_z w64 z)) → x ≡ accepted z → Says n x (Ok b)
says_integer n b z h e i o =
    let same : to_z w64 (of_z w64 z) ≡ z = to_z-of_z {w = w64} (record { sfits = h }) in
    rw i (ap (λ (c : ℕ). accepted (laid o n c (fill_of c))) (e ∙ ap bits same) ∙ ap (λ (c : ℕ). accepted (laid o n (bits z) c)) (fill_sign z (record { sfits = h })))

-- up to eight bytes nothing is filled
no_fill : (o : Bool) (n v b c : ℕ) → n ≤ 8 → laid o n v b ≡ laid o n v c
unfolding laid
no_fill o n v b c h = let e : n - 8 ≡ 0 = omega arith in rw e

pub says_pattern : (n b : ℕ) {x : Checked ℤ} → n ≤ 8 → x ≡ accepted (pos b) → Says n x (Ok b)
says_pattern n b h i o = rw i (ap accepted (no_fill o n b (fill_of b) 0 h))

pub says_refused : (n : ℕ) (r : Refusal) {x : Checked ℤ} → x ≡ refused (refusal_number r) → Says n x (Err r)
says_refused n r i o = rw i

pub says_as : (n : ℕ) (r : Result ℕ Refusal) {x y : Checked ℤ} → Says n x r → y ≡ x → Says n y r
says_as n r h i = subst (λ (z : Checked ℤ). Says n z r) (sym i) h

-- ---- ranges

pub all_bits : (b : ℕ) (z : ℤ) → 63 ≤ b → SFits w64 z → leb 63 b ≡ ltb (extent z) (2 ^ b)
all_bits b z h f = le-leb 63 b h ∙ sym (lt-ltb (extent z) (2 ^ b) (omega (arith, extent_fits z f, pow_mono h)))

-- a shift that stays inside 64 bits
shifted : (k : ℕ) → k < 64 → (1 * 2 ^ k) % 18446744073709551616 ≡ 2 ^ k
shifted k h = ap (λ (x : ℕ). x % 18446744073709551616) (one-mul (2 ^ k)) ∙ mod-eq_of_lt (pow-lt h)

half : (n : ℕ) → 1 ≤ n → 2 ^ (8 * n - 1) * 2 ≡ 256 ^ n
half n h =
    let next : suc (8 * n - 1) ≡ 8 * n = omega arith in
    sym (pow-suc 2 (8 * n - 1)) ∙ ap (λ (k : ℕ). 2 ^ k) next ∙ bits_of_bytes n

double_ltb : (a b c : ℕ) → b * 2 ≡ c → ltb a b ≡ ltb (a * 2) c
double_ltb a b c e = go (ltb a b) refl
  where
    go : (t : Bool) → ltb a b ≡ t → t ≡ ltb (a * 2) c
    go true h = sym (lt-ltb (a * 2) c (omega (arith, ltb-true a b h)))
    go false h = sym (le-ltb (a * 2) c (omega (arith, ltb-false a b h)))

pub signed_range : (r s : Bool) (n : ℕ) (z : ℤ) → 1 ≤ n → s ≡ true → r ≡ ltb (extent z) (2 ^ (8 * n - 1)) → r ≡ in_range s n z
signed_range r s n z l t e = rw t (e ∙ double_ltb (extent z) (2 ^ (8 * n - 1)) (256 ^ n) (half n l))

pub unsigned_range : (r s : Bool) (n : ℕ) (z : ℤ) → SFits w64 z → s ≡ false → lt_z (to_z w64 (of_z w64 z)) (pos 0) ≡ false → r ≡ ltb (extent z) (2 ^ (8 * n)) → r ≡ in_range s n z
unsigned_range r s n z f t h e = rw t (e ∙ ap (ltb (extent z)) (bits_of_bytes n) ∙ sym (ap (in_unsigned n) (positive z f h)))

-- ---- an integer z that was bound from an answer, and passes a test
pub says_ranged : (inside : ℤ → Bool) (n : ℕ) (z : ℤ) {x : Checked ℤ} (r : Result ℕ Refusal) → mag z < 2 ^ 63 → x ≡ ranged_or (inside z) z → Says n (ranged_or (inside (to_z w64 (of_z w64 z))) (to_z w64 (of_z w64 z))) r → Says n x r
says_ranged inside n z r h i s =
    let same : to_z w64 (of_z w64 z) ≡ z = to_z-of_z {w = w64} (record { sfits = h }) in
    says_as n r (rw same at s) i

-- ---- 12

-- what the code makes of a value that has no integer, or no number
pub of_kind_12 : {A : Type 0} (m : rust.Option A) → answer_of (ok_or m Refusal.WrongKind) ≡ or_else (found m) (refused 12)
of_kind_12 rust.None = refl
of_kind_12 (rust.Some a) = refl

-- a number's bits, as the integer that is not negative, or 12
abbrev pub bits_or : Option ℕ → Checked ℤ
bits_or m = or_else m (refused 12) >>= λ b. accepted (pos b)

pub says_bits : (n : ℕ) (m : Option ℕ) (r : Result ℕ Refusal) {x : Checked ℤ} → n ≤ 8 → answer_of r ≡ or_else m (refused 12) → x ≡ bits_or m → Says n x r
says_bits n m (Ok b) h e i = says_pattern n b h (i ∙ ap (λ (c : Checked ℕ). c >>= λ b. accepted (pos b)) (sym e))
says_bits n m (Err k) h e i = says_refused n k (i ∙ ap (λ (c : Checked ℕ). c >>= λ b. accepted (pos b)) (sym e))

-- ---- the kinds, by what the value w is

module _ (n : ℕ) (w : Value) where
  pub small_is : word SmallSigned n w ≡ or_else (as_integer w) (refused 12)
  unfolding word
  small_is = refl

  pub ranged_is : (s : Bool) → word (cond s Signed Unsigned) n w ≡ (or_else (as_integer w) (refused 12) >>= λ z. ranged_or (in_range s n z) z)
  unfolding word
  ranged_is true = refl
  ranged_is false = refl

  pub single_is : word Single n w ≡ (or_else (as_number w) (refused 12) >>= λ b. accepted (pos (to_single b)))
  unfolding word
  single_is = refl

  pub double_is : word Double n w ≡ bits_or (as_number w)
  unfolding word
  double_is = refl

-- what they make of its integer z
pub record OfInteger (n : ℕ) (w : Value) (z : ℤ) : Type 0 where
  pub lua : word LuaInteger n w ≡ accepted z
  pub lua_unsigned : word LuaUnsigned n w ≡ ranged_or (in_unsigned n z) z
  pub size : word Size n w ≡ accepted z

pub of_integer : (n : ℕ) (w : Value) (z : ℤ) → as_integer w ≡ some z → OfInteger n w z
unfolding word
of_integer n w z e = record { lua = rw e; lua_unsigned = rw e; size = rw e }

some_none : {A : Type 0} {a : A} → some a ≡ none → ⊥
some_none e = let x : ◌≡◌ {A = ℕ} 0 1 = cc in omega arith

-- a value without an integer: a float by its bits
float_bits : (w : Value) → as_integer w ≡ none → float_by (λ b. b) w ≡ bits_or (as_number w)
float_bits (integer z) e = absurd (some_none e)
float_bits (float b) e = refl
float_bits (text s) e = refl
float_bits other e = refl

float_wrapped : (w : Value) → as_integer w ≡ none → float_by (λ b. wrapped (of_bits binary64 b)) w ≡ bits_or (wrapped_float w)
float_wrapped (integer z) e = absurd (some_none e)
float_wrapped (float b) e = refl
float_wrapped (text s) e = refl
float_wrapped other e = refl

-- what they make of it where it has none
pub record OfNone (n : ℕ) (w : Value) : Type 0 where
  pub lua : word LuaInteger n w ≡ bits_or (as_number w)
  pub size : word Size n w ≡ bits_or (wrapped_float w)

pub of_none : (n : ℕ) (w : Value) → as_integer w ≡ none → OfNone n w
unfolding word
of_none n w e = record { lua = rw e (float_bits w e); size = rw e (float_wrapped w e) }

-- J of a number's bits is in the range of eight bytes
pub lua_unsigned_bits : (w : Value) (r : Result ℕ Refusal) → as_integer w ≡ none → IfOk r (λ b. b < 2 ^ 64) → answer_of r ≡ or_else (as_number w) (refused 12) → word LuaUnsigned 8 w ≡ bits_or (as_number w)
unfolding word
lua_unsigned_bits w r e h i = rw (e, float_bits w e) (go (as_number w) r h i)
  where
    go : (m : Option ℕ) (r : Result ℕ Refusal) → IfOk r (λ b. b < 2 ^ 64) → answer_of r ≡ or_else m (refused 12) → (bits_or m >>= λ z. require (in_unsigned 8 z) 13 >> accepted z) ≡ bits_or m
    go none r h i = refl
    go (some b) (Ok c) h i =
        let same : c ≡ b = cc in
        rw (lt-ltb b (256 ^ 8) (omega (arith, h)))
    go (some b) (Err k) h i = absurd (let x : ◌≡◌ {A = ℕ} 0 1 = cc in omega arith)

-- ---- by the kind
pub of_kind : {k j : Kind} (n : ℕ) (w : Value) (r : Result ℕ Refusal) → k ≡ j → Says n (word j n w) r → Says n (word k n w) r
of_kind n w r i h = says_as n r h (ap (λ (x : Kind). word x n w) i)

-- B and H are b and h but for what is read
pub of_small : {k : Kind} (n : ℕ) (w : Value) (r : Result ℕ Refusal) → (k ≡ SmallSigned) ⊎ (k ≡ SmallUnsigned) → Says n (word SmallSigned n w) r → Says n (word k n w) r
unfolding word
of_small n w r (inl e) h = of_kind n w r e h
of_small n w r (inr e) h = of_kind n w r e h

pub valid_as : {k j : Kind} (n : ℕ) → T (valid_size k n) → k ≡ j → T (valid_size j n)
valid_as n h e = subst (λ (x : Kind). T (valid_size x n)) e h
