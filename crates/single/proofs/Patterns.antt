-- A pattern of the format f made one of the format g, as `to_single` and `from_single` do it: a NaN's is written anew, any other is read, changed and written. The
-- sign's bit goes over as it is. Assumes nothing.
use mathlib.Core.Path.{◌≡◌, refl, ◌∙◌, subst}
use mathlib.Core.Bool.{Bool, true, false, not, ◌&&◌, cond}
use Prim.Native.Nat.{ℕ, zero, suc, ◌+◌, ◌-◌, ◌*◌, ◌/◌, ◌%◌, ◌^◌, ◌≤◌, ◌<◌}
use native.Mathlib.Nat.{zero-add, zero-mul, one-mul, add_assoc, le-add_right, mod-eq_of_lt, div-eq_of_lt, add-mod_left, add-div_left, mul-add-mod_self_left}
use native.Mathlib.Omega.{arith}
use lib.Dec.{T, leb, ltb, eqb, ltb→lt, nltb→le}
use lib.IntN.{ℤ}
use borrow.Author.Tests.{lt-ltb, le-ltb, le-leb, lt-leb}
use lib.Ieee.{Float, nan, inf, fin, Format, prec, emax, low, hid, ones, top, odd, units, round, of_fields, of_bits, nan_bits, to_bits, fits}
use lib.Ieee.Fits.{round_is}
use lib.Ieee.Bits.{nan_bits_above, to_bits-lt}

-- ---- a value with either sign is written with the sign's bit and without
abbrev pub Signed : Format → (Bool → Float) → Type 0
Signed g v = to_bits g (v true) ≡ top g + to_bits g (v false)

fin_signed : (g : Format) (m : ℕ) (e : ℤ) → Signed g (λ s. fin s m e)
unfolding to_bits
fin_signed g m e = simp (add_assoc, zero-add)

pub inf_signed : (g : Format) → Signed g inf
unfolding to_bits
inf_signed g = simp zero-add

pub odd_signed : (g : Format) (d q k l : ℕ) → Signed g (λ s. odd d s q k l)
unfolding odd
odd_signed g d zero k l = fin_signed g zero _
odd_signed g d (suc q) k l = fin_signed g _ _

units_signed : (g : Format) (q k : ℕ) → Signed g (λ s. units g s q k)
unfolding units
units_signed g q k = go (ltb (q * 2 ^ k) (2 ^ (low g + suc (emax g))))
  where
    go : (t : Bool) → Signed g (λ s. cond t (odd (suc (prec g)) s q k (low g)) (inf s))
    go true = odd_signed g (suc (prec g)) q k (low g)
    go false = inf_signed g

pub round_signed : (g : Format) (num den : ℕ) → Signed g (λ s. round g s num den)
round_signed g num den = rw (round_is g true, round_is g false) (units_signed g _ _)

-- whether the exponent x and the fraction t are a NaN's
abbrev pub nan_fields : Format → ℕ → ℕ → Bool
nan_fields f x t = eqb x (ones f) && not (eqb t 0)

-- what holds of every finite value and of the infinities holds of what such fields stand for, if they are no NaN's
pub by_fields : (f : Format) (P : (Bool → Float) → Type 0) → ((q k : ℕ) → P (λ s. odd (prec f) s q k (low f))) → P inf
    → (x t : ℕ) → nan_fields f x t ≡ false → P (λ s. of_fields f s x t)
unfolding of_fields
by_fields f P finite infinite zero t h = finite t 0
by_fields f P finite infinite (suc x) t h = go (eqb (suc x) (ones f)) (eqb t 0) h
  where
    go : (a b : Bool) → (a && not b) ≡ false → P (λ s. cond a (cond b (inf s) nan) (odd (prec f) s (hid f + t) x (low f)))
    go true true h = infinite
    go true false h = absurd (let z : ◌≡◌ {A = ℕ} 0 1 = cc in omega arith)
    go false b h = finite (hid f + t) x

-- ---- a pattern n converted: `payload n` is what a NaN becomes without its sign, and `change` is what happens to a value
abbrev pub converted : (f g : Format) → (ℕ → ℕ) → (Float → Float) → ℕ → ℕ
converted f g payload change n = cond (nan_bits f n) (cond (leb (top f) n) (top g) 0 + payload n) (to_bits g (change (of_bits f n)))

module _ (f g : Format) (payload : ℕ → ℕ) (change : Float → Float) where
  abbrev into : ℕ → ℕ
  into = converted f g payload change

  pub converted_lt : ((n : ℕ) → payload n < top g) → ((n : ℕ) → T (fits g (change (of_bits f n)))) → (n : ℕ) → into n < 2 * top g
  converted_lt small fit n = go (nan_bits f n) (leb (top f) n)
    where
      with_sign_lem : (s : Bool) (a c : ℕ) → a < c → cond s c 0 + a < 2 * c
      with_sign_lem true a c h = omega arith
      with_sign_lem false a c h = omega arith

      go : (t s : Bool) → cond t (cond s (top g) 0 + payload n) (to_bits g (change (of_bits f n))) < 2 * top g
      go true s = with_sign_lem s (payload n) (top g) (small n)
      go false s = to_bits-lt g (change (of_bits f n)) (fit n)

  -- without the sign's bit
  module _ (n : ℕ) (n-lt : n < top f) where
    pub at_nan : ones f * hid f < n → into n ≡ payload n
    at_nan h = rw (nan_bits_above f n, mod-eq_of_lt n-lt, lt-ltb _ _ h, lt-leb _ _ n-lt, zero-add)

    pub at_number : n ≤ ones f * hid f → into n ≡ to_bits g (change (of_fields f false (n / hid f) (n % hid f)))
    unfolding of_bits
    at_number h = rw (nan_bits_above f n, mod-eq_of_lt n-lt, le-ltb _ _ h, lt-leb _ _ n-lt)

  -- with it
  module _ (same : (n : ℕ) → payload (top f + n) ≡ payload n) (signed : (x t : ℕ) → nan_fields f x t ≡ false → Signed g (λ s. change (of_fields f s x t))) where
    pub sign_over : (n : ℕ) → n < top f → into (top f + n) ≡ top g + into n
    unfolding of_bits nan_bits
    sign_over n n-lt =
        rw (add-mod_left (top f) n, mul-add-mod_self_left (hid f) (suc (ones f)) n, le-leb (top f) (top f + n) (le-add_right (top f) n), lt-leb _ _ n-lt)
        (go (nan_bits f n) (signed x t))
      where
        x : ℕ
        x = n % top f / hid f

        t : ℕ
        t = n % hid f

        go : (b : Bool) → (b ≡ false → Signed g (λ s. change (of_fields f s x t)))
            → cond b (top g + payload (top f + n)) (to_bits g (change (of_fields f true x t))) ≡ top g + cond b (0 + payload n) (to_bits g (change (of_fields f false x t)))
        go true h = rw (same n, zero-add)
        go false h = h refl

    pub sign_apart : (n : ℕ) → n < 2 * top f → into n ≡ n / top f * top g + into (n % top f)
    sign_apart n n-lt = go (ltb n (top f)) (ltb→lt n (top f)) (nltb→le n (top f))
      where
        rest : (n c : ℕ) → n < 2 * c → c ≤ n → (0 < c) × (n - c < c) × (c + (n - c) ≡ n)
        rest n c h l = omega arith

        go : (b : Bool) → (T b → n < top f) → (T (not b) → top f ≤ n) → into n ≡ n / top f * top g + into (n % top f)
        go true l m = let h = l tt in rw (div-eq_of_lt h, mod-eq_of_lt h, zero-mul, zero-add)
        go false l m =
            let h = rest n (top f) n-lt (m tt) in
            subst (λ (x : ℕ). into x ≡ x / top f * top g + into (x % top f)) h.2
            (sign_over (n - top f) h.1 ∙ rw (add-div_left (n - top f) h.0, div-eq_of_lt h.1, add-mod_left, mod-eq_of_lt h.1, one-mul))
