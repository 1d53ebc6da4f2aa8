-- A value's integer and number have 64 bits.
use Prim.Native.Nat.{ℕ, ◌*◌, ◌/◌, ◌%◌, ◌^◌, ◌<◌}
use mathlib.Core.Path.{◌≡◌, refl, subst}
use mathlib.Core.Bool.{Bool, true, false, cond}
use mathlib.Core.Option.{none, some}
use native.Mathlib.Omega.{arith}
use lib.Dec.{ltb, eqb}
use lib.IntN.{ℤ}
use lib.Ieee.{Float, nan, inf, fin, binary64, up, down, of_bits, of_int}
use lib.Ieee.Fits.{of_int-fits}
use lib.Ieee.Bits.{to_bits-lt}
use borrow.Author.Tests.{ltb-true}
use Rattle.definition.specs.Bytes.{extent}
use Rattle.definition.specs.Values.{Value, integer, float, text, other, Held, with_sign, integer_where, integer_of, as_integer, as_number}

pub nothing : {A : Type 0} {a : A} → none ≡ some a → ⊥
nothing e = let z : ◌≡◌ {A = ℕ} 0 1 = cc in omega arith

pub inside : {A : Type 0} {a b : A} → some a ≡ some b → a ≡ b
inside e = cc

where_held : (t : Bool) (y z : ℤ) → integer_where t y ≡ some z → extent z < 2 ^ 63
where_held false y z e = absurd (nothing e)
where_held true y z e = go (ltb (extent y) (2 ^ 63)) refl e
  where
    go : (t : Bool) → ltb (extent y) (2 ^ 63) ≡ t → cond t (some y) none ≡ some z → extent z < 2 ^ 63
    go true h e = subst (λ (x : ℤ). extent x < 2 ^ 63) (inside e) (ltb-true (extent y) (2 ^ 63) h)
    go false h e = absurd (nothing e)

float_held : (x : Float) (z : ℤ) → integer_of x ≡ some z → extent z < 2 ^ 63
float_held nan z e = absurd (nothing e)
float_held (inf s) z e = absurd (nothing e)
float_held (fin s m e) z h = where_held (eqb (m * up e % down e) 0) (with_sign s (m * up e / down e)) z h

pub integer_held : (v : Value) (z : ℤ) → Held v → as_integer v ≡ some z → extent z < 2 ^ 63
integer_held (integer y) z held e = subst (λ (x : ℤ). extent x < 2 ^ 63) (inside e) held
integer_held (float b) z held e = float_held (of_bits binary64 b) z e
integer_held (text s) z held e = absurd (nothing e)
integer_held other z held e = absurd (nothing e)

pub number_held : (v : Value) (b : ℕ) → Held v → as_number v ≡ some b → b < 2 ^ 64
number_held (integer y) b held e = subst (λ (x : ℕ). x < 2 ^ 64) (inside e) (to_bits-lt binary64 (of_int binary64 y) (of_int-fits binary64 y))
number_held (float c) b held e = subst (λ (x : ℕ). x < 2 ^ 64) (inside e) held
number_held (text s) b held e = absurd (nothing e)
number_held other b held e = absurd (nothing e)
