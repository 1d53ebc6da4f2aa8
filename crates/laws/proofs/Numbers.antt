-- A number is read back, and written again: every kind, and every size together.
use Prim.Native.Nat.{ℕ, ◌*◌, ◌-◌, ◌%◌, ◌^◌, ◌≤◌, ◌<◌}
use mathlib.Core.Path.{◌≡◌, refl, sym, ap, ◌∙◌, subst}
use mathlib.Core.Bool.{Bool, true}
use mathlib.Core.List.{List}
use mathlib.Core.Option.{Option, none, some}
use native.Mathlib.Nat.{mod-eq_of_lt, mod-lt, mod-mod, lt_of_lt_of_le}
use native.Mathlib.Omega.{arith}
use lib.Dec.{T, leb, ltb, eqb, leb→le, ltb→lt, eqb→eq, lit≤}
use lib.IntN.{ℤ, pos, negsuc}
use lib.ListN.{replicate}
use borrow.Author.Tests.{ltb-true}
use mir.Facts.{and_yes}
use Rattle.single.specs.Single.{to_single}
use Rattle.single.proofs.Rounding.{single_lt}
use Rattle.single.proofs.Widening.{double_lt}
use Rattle.single.proofs.Back.{single_again}
use Rattle.definition.specs.Answers.{Checked, refused, accepted, ◌>>=◌, ◌>>◌, require, or_else}
use Rattle.definition.specs.Ops.{within16}
use Rattle.definition.specs.Bytes.{bits, sign, extent, signed, low, coded}
use Rattle.definition.specs.Values.{Value, integer, float, text, other, Held, as_integer, as_number}
use Rattle.definition.specs.Fields.{in_signed, in_unsigned, float_by, integer_or, word, encode, decode, value_by, kept_number, kept}
use Rattle.laws.specs.Claims.{is_some, integer_for_j}
use Rattle.definition.specs.declared.Kind.{Kind}
use Rattle.definition.specs.declared.Kind.TheVariants.{SmallSigned, SmallUnsigned, Signed, Unsigned, LuaInteger, LuaUnsigned, Size, Single, Double}
use Rattle.definition.specs.declared.Field.TheVariants.{Number}
use Rattle.laws.proofs.Answers.{never, same, bound, passed, found, true_not_false}
use Rattle.laws.proofs.Bytes.{pow_pos, pow_le, length_coded, number_coded, all_replicate, bits_signed, bits_eight, signed_low, signed_bits, coded_same, bits_lt, extent_signed}
use Rattle.laws.proofs.Floats.{integer_held, number_held}
use Rattle.laws.proofs.Texts.{Returns, low_lt}

-- the sizes that the options of a kind have
abbrev pub valid_size : Kind → ℕ → Bool
valid_size SmallSigned n = leb n 8
valid_size SmallUnsigned n = ltb n 8
valid_size Signed n = within16 n
valid_size Unsigned n = within16 n
valid_size LuaInteger n = eqb n 8
valid_size LuaUnsigned n = eqb n 8
valid_size Size n = leb n 8
valid_size Single n = eqb n 4
valid_size Double n = eqb n 8

-- The integer z, written by a kind in n bytes, is read back as what is kept of it, and this is written as y, which has the same bytes.
record Kept (o : Bool) (k : Kind) (n : ℕ) (z : ℤ) : Type 0 where
  gives : value_by k n (bits z % 256 ^ low n) (replicate (n - 8) (sign z)) ≡ accepted (kept_number k n z)
  y : ℤ
  again : word k n (kept_number k n z) ≡ accepted y
  bytes : coded o n y ≡ coded o n z
  held : Held (kept_number k n z)

small_signed : (o : Bool) (n : ℕ) (z : ℤ) → n ≤ 8 → Kept o SmallSigned n z
unfolding word
small_signed o n z h =
    let l : low n ≡ n = omega arith in
    let e : n - 8 ≡ 0 = omega arith in
    let u : ℕ = bits z % 256 ^ n in
    let lt : u < 256 ^ n = mod-lt (bits z) (pow_pos n) in
    record { gives = rw (l, e); y = signed n u; again = refl; bytes = coded_same o n (signed n u) z h (bits_signed n u h lt); held = extent_signed n u h lt }

small_unsigned : (o : Bool) (n : ℕ) (z : ℤ) → n < 8 → Kept o SmallUnsigned n z
unfolding word
small_unsigned o n z h =
    let l : low n ≡ n = omega arith in
    let e : n - 8 ≡ 0 = omega arith in
    let u : ℕ = bits z % 256 ^ n in
    let lt : u * 2 < 256 ^ 8 = omega (arith, mod-lt (bits z) (pow_pos n), pow_le n 7 (omega arith)) in
    record { gives = rw (l, e, signed_low 8 u lt); y = pos u; again = refl; bytes = coded_same o n (pos u) z (omega arith) (mod-mod (bits z) (256 ^ n)); held = omega arith }

signed_kept : (o : Bool) (n : ℕ) (z : ℤ) → 1 ≤ n → extent z < 2 ^ 63 → in_signed n z ≡ true → Kept o Signed n z
unfolding word
signed_kept o n z h k e =
    let r : extent z * 2 < 256 ^ low n = low_lt n (extent z * 2) (ltb-true (extent z * 2) (256 ^ n) e) (omega arith) in
    let s : signed (low n) (bits z % 256 ^ low n) ≡ z = signed_bits (low n) z (omega arith) (omega arith) r in
    record { gives = rw (s, all_replicate (n - 8) (sign z)); y = z; again = rw e; bytes = refl; held = k }

unsigned_kept : (o : Bool) (n : ℕ) (z : ℤ) → extent z < 2 ^ 63 → in_unsigned n z ≡ true → Kept o Unsigned n z
unfolding word
unsigned_kept o n (pos u) h e = record {
  gives = rw (mod-eq_of_lt (low_lt n u (ltb-true u (256 ^ n) e) (omega arith)), all_replicate (n - 8) 0, signed_low 8 u (omega arith));
  y = pos u;
  again = rw e;
  bytes = refl;
  held = h;
}
unsigned_kept o n (negsuc u) h e = absurd (true_not_false (sym e))

lua_integer : (o : Bool) (z : ℤ) → bits z < 2 ^ 64 → Kept o LuaInteger 8 z
unfolding word
lua_integer o z h = record {
  gives = rw (mod-eq_of_lt h);
  y = signed 8 (bits z);
  again = refl;
  bytes = coded_same o 8 (signed 8 (bits z)) z (lit≤ tt) (ap (λ (x : ℕ). x % 256 ^ 8) (bits_eight (bits z) h));
  held = extent_signed 8 (bits z) (lit≤ tt) h;
}

lua_unsigned : (o : Bool) (z : ℤ) → extent z < 2 ^ 63 → in_unsigned 8 z ≡ true → Kept o LuaUnsigned 8 z
unfolding word
lua_unsigned o (pos u) h e =
    let b : u < 2 ^ 64 = omega arith in
    record { gives = rw (mod-eq_of_lt b); y = pos u; again = rw (signed_low 8 u (omega arith), e); bytes = refl; held = extent_signed 8 u (lit≤ tt) b }
lua_unsigned o (negsuc u) h e = absurd (true_not_false (sym e))

size : (o : Bool) (n : ℕ) (z : ℤ) → n ≤ 8 → Kept o Size n z
unfolding word
size o n z h =
    let l : low n ≡ n = omega arith in
    let e : n - 8 ≡ 0 = omega arith in
    let u : ℕ = bits z % 256 ^ n in
    let t : u < 256 ^ 8 = lt_of_lt_of_le (mod-lt (bits z) (pow_pos n)) (pow_le n 8 h) in
    let b : bits (signed 8 u) ≡ u = bits_eight u t in
    record { gives = rw (l, e); y = signed 8 u; again = refl; bytes = coded_same o n (signed 8 u) z h (ap (λ (x : ℕ). x % 256 ^ n) b ∙ mod-mod (bits z) (256 ^ n)); held = extent_signed 8 u (lit≤ tt) t }

single : (o : Bool) (b : ℕ) → Kept o Single 4 (pos (to_single b))
unfolding word
single o b = record { gives = rw (mod-eq_of_lt (single_lt b)); y = pos (to_single b); again = ap (λ (x : ℕ). accepted (pos x)) (single_again b); bytes = refl; held = double_lt (to_single b) }

double : (o : Bool) (b : ℕ) → b < 2 ^ 64 → Kept o Double 8 (pos b)
unfolding word
double o b h = record { gives = rw (mod-eq_of_lt h); y = pos b; again = refl; bytes = refl; held = h }

-- ---- the integers that the kinds write

pub within_from_1 : (n : ℕ) → T (within16 n) → 1 ≤ n
within_from_1 n h = leb→le 1 n (and_yes (leb 1 n) (leb n 16) h).0

-- an integer, or a float's bits, are 64 bits
bits_held : (m : Option ℤ) (v : Value) (z : ℤ) → ((y : ℤ) → m ≡ some y → extent y < 2 ^ 63) → Held v → or_else m (float_by (λ b. b) v) ≡ accepted z → bits z < 2 ^ 64
bits_held (some y) v z f held e = subst (λ (x : ℤ). bits x < 2 ^ 64) (same e) (bits_lt y (f y refl))
bits_held none (integer y) z f held e = absurd (never e)
bits_held none (float b) z f held e = subst (λ (x : ℤ). bits x < 2 ^ 64) (same e) held
bits_held none (text s) z f held e = absurd (never e)
bits_held none other z f held e = absurd (never e)

-- where there is an integer, it is the one that is written
integer_first : (m : Option ℤ) (c : Checked ℤ) (z : ℤ) → T (is_some m) → or_else m c ≡ accepted z → m ≡ some z
integer_first none c z h e = absurd h
integer_first (some y) c z h e = ap some (same e)

ranged : (o : Bool) (k : Kind) (n : ℕ) (c : Checked ℤ) (test : ℤ → Bool) (z : ℤ) → ((y : ℤ) → c ≡ accepted y → test y ≡ true → Kept o k n y) → (c >>= λ y. require (test y) 13 >> accepted y) ≡ accepted z → Kept o k n z
ranged o k n c test z f e =
    let b = bound c (λ y. require (test y) 13 >> accepted y) e in
    let p = passed (test b.val) 13 (accepted b.val) b.rest in
    subst (Kept o k n) (same p.1) (f b.val b.is p.0)

number_kept : (o : Bool) (k : Kind) (n : ℕ) (v : Value) (z : ℤ) → T (valid_size k n) → Held v → T (integer_for_j (Number k n) v) → word k n v ≡ accepted z → Kept o k n z
unfolding word
number_kept o SmallSigned n v z ok held j e = small_signed o n z (leb→le n 8 ok)
number_kept o SmallUnsigned n v z ok held j e = small_unsigned o n z (ltb→lt n 8 ok)
number_kept o Signed n v z ok held j e =
    ranged o Signed n (or_else (as_integer v) (refused 12)) (in_signed n) z (λ y is t. signed_kept o n y (within_from_1 n ok) (integer_held v y held (found (as_integer v) is)) t) e
number_kept o Unsigned n v z ok held j e =
    ranged o Unsigned n (or_else (as_integer v) (refused 12)) (in_unsigned n) z (λ y is t. unsigned_kept o n y (integer_held v y held (found (as_integer v) is)) t) e
number_kept o LuaInteger n v z ok held j e =
    subst (λ (m : ℕ). Kept o LuaInteger m z) (sym (eqb→eq n 8 ok)) (lua_integer o z (bits_held (as_integer v) v z (λ y h. integer_held v y held h) held e))
number_kept o LuaUnsigned n v z ok held j e =
    let eight : n ≡ 8 = eqb→eq n 8 ok in
    ranged o LuaUnsigned n (integer_or (λ b. b) v) (in_unsigned n) z (λ y is t. subst (λ (m : ℕ). Kept o LuaUnsigned m y) (sym eight) (lua_unsigned o y (integer_held v y held (integer_first (as_integer v) (float_by (λ b. b) v) y j is)) (subst (λ (m : ℕ). in_unsigned m y ≡ true) eight t))) e
number_kept o Size n v z ok held j e = size o n z (leb→le n 8 ok)
number_kept o Single n v z ok held j e =
    let b = bound (or_else (as_number v) (refused 12)) (λ x. accepted (pos (to_single x))) e in
    subst (λ (m : ℕ). Kept o Single m z) (sym (eqb→eq n 4 ok)) (subst (Kept o Single 4) (same b.rest) (single o b.val))
number_kept o Double n v z ok held j e =
    let b = bound (or_else (as_number v) (refused 12)) (λ x. accepted (pos x)) e in
    subst (λ (m : ℕ). Kept o Double m z) (sym (eqb→eq n 8 ok)) (subst (Kept o Double 8) (same b.rest) (double o b.val (number_held v b.val held (found (as_number v) b.is))))

returned : (o : Bool) (k : Kind) (n : ℕ) (v : Value) (z : ℤ) → word k n v ≡ accepted z → Kept o k n z → Returns o (Number k n) v (coded o n z)
unfolding encode decode kept
returned o k n v z e q = record {
  reads = λ rest. rw (e, number_coded o n z rest, q.gives) (ap (λ (x : ℕ). accepted (kept_number k n z, x)) (sym (length_coded o n z)));
  again = rw (e, q.again, q.bytes);
  held = rw e q.held;
}

pub number_back : (o : Bool) (k : Kind) (n : ℕ) (v : Value) (bs : List ℕ) → T (valid_size k n) → Held v → T (integer_for_j (Number k n) v) → encode o (Number k n) v ≡ accepted bs → Returns o (Number k n) v bs
unfolding encode
number_back o k n v bs ok held j e =
    let b = bound (word k n v) (λ z. accepted (coded o n z)) e in
    subst (Returns o (Number k n) v) (same b.rest) (returned o k n v b.val b.is (number_kept o k n v b.val ok held j b.is))
