-- An answer is a refusal, by its number in document 01's list ("Turned-down calls"), or what is accepted.
use Rattle.std.specs.Prelude.{ℕ, Bool, true, false, List, [], ◌∷◌}
use Rattle.std.proofs.Math.Option.{Option, none, some}

pub data Checked (A : Type 0) : Type 0 where
  refused : ℕ → Checked A
  accepted : A → Checked A

-- The first failing check decides: a `do` block is refused by its first line that is.
infixl 20 ◌>>=◌
infixl 20 ◌>>◌
abbrev pub ◌>>=◌ : {A B : Type 0} → Checked A → (A → Checked B) → Checked B
◌>>=◌ (refused k) f = refused k
◌>>=◌ (accepted a) f = f a

abbrev pub ◌>>◌ : {A B : Type 0} → Checked A → Checked B → Checked B
◌>>◌ (refused k) c = refused k
◌>>◌ (accepted a) c = c

-- the check that a test passes, else the refusal k
abbrev pub require : Bool → ℕ → Checked (Unit {0})
require true k = accepted tt
require false k = refused k

-- what there is, else the answer c
abbrev pub or_else : {A : Type 0} → Option A → Checked A → Checked A
or_else (some a) c = accepted a
or_else none c = c

-- "Items go left to right": a run over items, each of which may be refused by itself. `step` takes a state over one item, to the next state and what it puts out.
module _ {S I O : Type 0} (step : S → I → Checked (S × O)) (nothing : O) (◌⊕◌ : O → O → O) where
  infixl 60 ◌⊕◌
  -- an answer whose output comes after o
  abbrev pub after : O → Checked (S × O) → Checked (S × O)
  after o (refused k) = refused k
  after o (accepted r) = accepted (r.0, o ⊕ r.1)

  abbrev pub run : S → List (Checked I) → Checked (S × O)
  run s [] = accepted (s, nothing)
  run s (i ∷ is) = i >>= step s >>= λ r. after r.1 (run r.0 is)

-- a step that puts nothing out
abbrev pub silent : {S I : Type 0} → (S → I → Checked S) → S → I → Checked (S × Unit {0})
silent step s i = step s i >>= λ t. accepted (t, tt)

-- a run of such steps
abbrev pub run_silent : {S I : Type 0} → (S → I → Checked S) → S → List (Checked I) → Checked S
run_silent step s is = run (silent step) tt (λ a b. tt) s is >>= λ r. accepted r.0
