-- Powers of two of 1 to 16 by their masks: a power has no bit in common with the number below it. So padding is told by the bits of an alignment.
use Rattle.std.proofs.Common.{◌≡◌, ℕ, zero, suc, ◌+◌, ◌-◌, ◌<◌, ◌≤◌, min, false, eqb, List, [], ◌∷◌, get_or, sym, ap, ◌∙◌, le_of_suc-le-suc, not-suc-le-zero, add-zero, zero-add, arith, lit≤, ne_eqb}
use lib.Bits.{bit_and}
use Rattle.definition.specs.Answers.{refused, accepted}
use Rattle.definition.specs.Ops.{is_power}
use Rattle.definition.specs.States.{alignment, fill, padding}
use Rattle.definition.specs.declared.State.{State}
use Rattle.laws.proofs.Fills.{fill_of_lem}
use Rattle.laws.proofs.Ops.{power_least, power_most, Limited}

-- f at i and the n - 1 numbers after it
abbrev pub each : {A : Type 0} → (ℕ → A) → ℕ → ℕ → List A
each f i zero = []
each f i (suc n) = f i ∷ each f (suc i) n

pub get_each : {A : Type 0} (f : ℕ → A) (i n k : ℕ) (d : A) → k < n → get_or (each f i n) k d ≡ f (i + k)
get_each f i zero k d h = absurd (not-suc-le-zero h)
get_each f i (suc n) zero d h = rw add-zero
get_each f i (suc n) (suc k) d h = let q : i + suc k ≡ suc i + k = omega arith in rw q (get_each f (suc i) n k d (le_of_suc-le-suc h))

-- the mask m of n, n - 1: all 16 by one equation that antt computes
pub power_mask : (n m : ℕ) → n ≡ suc m → m < 16 → eqb (bit_and n m) 0 ≡ is_power n
power_mask n m e h = rw (e, ← zero-add m) (sym (get_each (λ k. eqb (bit_and (suc k) k) 0) 0 16 m false h) ∙ get_each (λ k. is_power (suc k)) 0 16 m false h)

pub power_none : (n : ℕ) → (n ≡ 1 → ⊥) → (n ≡ 2 → ⊥) → (n ≡ 4 → ⊥) → (n ≡ 8 → ⊥) → (n ≡ 16 → ⊥) → is_power n ≡ false
power_none n h1 h2 h4 h8 h16 = rw (ne_eqb n 1 h1, ne_eqb n 2 h2, ne_eqb n 4 h4, ne_eqb n 8 h8, ne_eqb n 16 h16)

-- ---- padding, by the lesser a of a natural alignment and the limit
module _ (s : State) (n a : ℕ) (is : a ≡ min n s.limit) (limited : Limited s) (natural : 1 ≤ n) where
  from_1 : 1 ≤ a
  from_1 = omega (arith, is, power_least s.limit limited)

  to_16 : a ≤ 16
  to_16 = omega (arith, is, power_most s.limit limited)

  by_mask : is_power a ≡ eqb (bit_and a (a - 1)) 0
  by_mask = sym (power_mask a (a - 1) (omega (arith, from_1)) (omega (arith, to_16)))

  pub unaligned : a < 2 → accepted 0 ≡ padding s n
  unfolding alignment padding
  unaligned h =
      let one : a ≡ 1 = omega (arith, from_1, h) in
      let none : 0 ≡ fill 1 s.length = omega (arith, (fill_of_lem 1 s.length (lit≤ tt)).below) in
      rw (← is, one) (ap accepted none)

  pub aligned : {p : ℕ} → bit_and a (a - 1) ≡ 0 → p ≡ fill a s.length → accepted p ≡ padding s n
  unfolding alignment padding
  aligned e f = rw (← is, by_mask, e) (ap accepted f)

  pub no_power : (bit_and a (a - 1) ≡ 0 → ⊥) → refused 6 ≡ padding s n
  unfolding alignment padding
  no_power e = rw (← is, by_mask, ne_eqb (bit_and a (a - 1)) 0 e)
