-- Laws of answers and of runs: what an accepted answer went through, and one induction over accepted runs.
use mathlib.Core.Path.{◌≡◌, refl, sym, ap, subst}
use mathlib.Core.Bool.{Bool, true, false, ◌&&◌}
use mathlib.Core.List.{List, [], ◌∷◌}
use mathlib.Core.Option.{Option, none, some}
use Prim.Native.Nat.{ℕ}
use native.Mathlib.Omega.{arith}
use Rattle.definition.specs.Answers.{Checked, refused, accepted, ◌>>=◌, ◌>>◌, require, or_else, after, run, silent, run_silent}

pub never : {A : Type 0} {k : ℕ} {a : A} → refused k ≡ accepted a → ⊥
never e = let z : ◌≡◌ {A = ℕ} 0 1 = cc in omega arith

pub same : {A : Type 0} {a b : A} → accepted a ≡ accepted b → a ≡ b
same e = cc

pub same_number : {A : Type 0} {j k : ℕ} → ◌≡◌ {A = Checked A} (refused j) (refused k) → j ≡ k
same_number e = cc

pub true_not_false : true ≡ false → ⊥
true_not_false e = let z : ◌≡◌ {A = ℕ} 0 1 = cc in omega arith

-- the two tests of one that holds
pub both_parts : (a b : Bool) → (a && b) ≡ true → (a ≡ true) × (b ≡ true)
both_parts true b e = (refl, e)
both_parts false b e = absurd (true_not_false (sym e))

pub record Bound {A B : Type 0} (c : Checked A) (f : A → Checked B) (b : B) : Type 0 where
  pub val : A
  pub is : c ≡ accepted val
  pub rest : f val ≡ accepted b

-- the value that an accepted answer went through
pub bound : {A B : Type 0} (c : Checked A) (f : A → Checked B) {b : B} → (c >>= f) ≡ accepted b → Bound c f b
bound (refused k) f e = absurd (never e)
bound (accepted a) f e = record { val = a; is = refl; rest = e }

-- a check that an accepted answer passed, and what came after it
pub passed : {B : Type 0} (t : Bool) (k : ℕ) (c : Checked B) {b : B} → (require t k >> c) ≡ accepted b → (t ≡ true) × (c ≡ accepted b)
passed true k c e = (refl, e)
passed false k c e = absurd (never e)

pub found : {A : Type 0} (m : Option A) {a : A} → or_else m (refused 12) ≡ accepted a → m ≡ some a
found none e = absurd (never e)
found (some a) e = ap some (same e)

module _ {S I O : Type 0} (step : S → I → Checked (S × O)) (nothing : O) (◌⊕◌ : O → O → O) where
  infixl 60 ◌⊕◌
  pub after_accepted : (o : O) (c : Checked (S × O)) (q : S × O) → after step nothing ◌⊕◌ o c ≡ accepted q → (r : S × O) × (c ≡ accepted r) × ((r.0, o ⊕ r.1) ≡ q)
  after_accepted o (refused k) q e = absurd (never e)
  after_accepted o (accepted r) q e = (r, refl, same e)

  -- a run whose first step and whose rest are accepted
  pub on : (s t : S) (i : I) (is : List (Checked I)) (a : O) (r : S × O) → step s i ≡ accepted (t, a) → run step nothing ◌⊕◌ t is ≡ accepted r
      → run step nothing ◌⊕◌ s (accepted i ∷ is) ≡ accepted (r.0, a ⊕ r.1)
  on s t i is a r e f = rw (e, f)

  -- what holds of an accepted run, by its steps
  pub by_steps : (P : S → List (Checked I) → S → O → Type 0)
      → ((s : S) → P s [] s nothing)
      → ((s : S) (i : I) (t : S) (a : O) (is : List (Checked I)) (u : S) (b : O) → step s i ≡ accepted (t, a) → P t is u b → P s (accepted i ∷ is) u (a ⊕ b))
      → (s : S) (is : List (Checked I)) (u : S) (o : O) → run step nothing ◌⊕◌ s is ≡ accepted (u, o) → P s is u o
  by_steps P z n s [] u o e = subst (λ (r : S × O). P s [] r.0 r.1) (same e) (z s)
  by_steps P z n s (refused k ∷ is) u o e = absurd (never e)
  by_steps P z n s (accepted i ∷ is) u o e =
      let b = bound (step s i) (λ r. after step nothing ◌⊕◌ r.1 (run step nothing ◌⊕◌ r.0 is)) e in
      let c = after_accepted b.val.1 (run step nothing ◌⊕◌ b.val.0 is) (u, o) b.rest in
      subst (λ (r : S × O). P s (accepted i ∷ is) r.0 r.1) c.2
      (n s i b.val.0 b.val.1 is c.0.0 c.0.1 b.is (by_steps P z n b.val.0 is c.0.0 c.0.1 c.1))

-- a run that puts nothing out, by its first item
module _ {S I : Type 0} (step : S → I → Checked S) where
  unsaid : (c : Checked (S × Unit {0})) → (after (silent step) tt (λ a b. tt) tt c >>= λ r. accepted r.0) ≡ (c >>= λ r. accepted r.0)
  unsaid (refused k) = refl
  unsaid (accepted r) = refl

  pub silent_on : (s : S) (i : I) (is : List (Checked I)) → run_silent step s (accepted i ∷ is) ≡ (step s i >>= λ t. run_silent step t is)
  silent_on s i is = go (step s i)
    where
      go : (c : Checked S) → (◌>>=◌ {A = S} {B = S × Unit {0}} c (λ t. accepted (t, tt)) >>= (λ r. after (silent step) tt (λ a b. tt) r.1 (run (silent step) tt (λ a b. tt) r.0 is)) >>= λ r. accepted r.0)
          ≡ (c >>= λ t. run_silent step t is)
      go (refused k) = refl
      go (accepted t) = unsaid (run (silent step) tt (λ a b. tt) t is)
