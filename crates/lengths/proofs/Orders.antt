-- Aligning keeps the order of offsets: from m the fill of a later n reaches the same multiple, so the fill of m, which is the least, does not go beyond it.
use Prim.Native.Nat.{ℕ, zero, suc, ◌+◌, ◌-◌, ◌%◌, ◌≤◌, min}
use native.Mathlib.Omega.{arith}
use mathlib.Core.Path.{◌≡◌, refl, ap, ◌∙◌, subst}
use mathlib.Core.Bool.{Bool, true, false, cond}
use lib.Dec.{eqb}
use Rattle.definition.specs.Answers.{accepted}
use Rattle.definition.specs.Ops.{is_power}
use Rattle.definition.specs.States.{set, further, alignment, fill, padding}
use Rattle.definition.specs.declared.State.{State}
use Rattle.definition.specs.declared.Setting.{Setting}
use Rattle.laws.proofs.Answers.{same, bound, passed}
use Rattle.laws.proofs.Fills.{fill_of_lem}

-- by no alignment nothing is filled up
nothing_filled : (n : ℕ) → fill 0 n ≡ 0
nothing_filled n = go (eqb (n % 0) 0)
  where
    go : (t : Bool) → cond t 0 (0 - n % 0) ≡ 0
    go true = refl
    go false = omega arith

pub fill_order : (a m n : ℕ) → m ≤ n → m + fill a m ≤ n + fill a n
fill_order zero m n h = rw (nothing_filled m, nothing_filled n) (omega arith)
fill_order (suc a) m n h =
    let f = fill (suc a) n in
    let there : m + (n - m + f) ≡ n + f = omega arith in
    let reached : (m + (n - m + f)) % suc a ≡ 0 = ap (λ (x : ℕ). x % suc a) there ∙ (fill_of_lem (suc a) n (omega arith)).reaches in
    omega (arith, (fill_of_lem (suc a) m (omega arith)).least (n - m + f) reached)

-- ---- states in order: one limit, and lengths that don't fall

pub record Before (s t : State) : Type 0 where
  pub limits : s.limit ≡ t.limit
  pub lengths : s.length ≤ t.length

pub before_itself : (s : State) → Before s s
before_itself s = record { limits = refl; lengths = omega arith }

pub set_before : (x : Setting) (s t : State) → Before s t → Before (set x s) (set x t)
set_before (Setting.Order o) s t h = record { limits = h.limits; lengths = h.lengths }
set_before (Setting.Limit n) s t h = record { limits = refl; lengths = h.lengths }

-- the zeros of an alignment that is allowed
pub padding_is : (s : State) (n p : ℕ) → padding s n ≡ accepted p → fill (min n s.limit) s.length ≡ p
unfolding alignment padding
padding_is s n p e =
    let b = bound (alignment s n) (λ a. accepted (fill a s.length)) e in
    let c = passed (is_power (min n s.limit)) 6 (accepted (min n s.limit)) b.is in
    ap (λ (a : ℕ). fill a s.length) (same c.1) ∙ same b.rest

-- an item of j bytes behind the first state and k behind the second, no fewer, with the zeros before it
pub item_before : (s t : State) (n p q j k : ℕ) → Before s t → padding s n ≡ accepted p → padding t n ≡ accepted q → j ≤ k → Before (further s (p + j)) (further t (q + k))
item_before s t n p q j k h e f l =
    let a : fill (min n t.limit) s.length ≡ p = subst (λ (m : ℕ). fill (min n m) s.length ≡ p) h.limits (padding_is s n p e) in
    record { limits = h.limits; lengths = omega (arith, fill_order (min n t.limit) s.length t.length h.lengths, a, padding_is t n q f) }
