-- A pass over a format: what was read so far, and what is read from here on, by the walk over items.
use Prim.Native.Nat.{ℕ}
use mathlib.Core.Path.{◌≡◌, refl, sym, subst}
use mathlib.Core.List.{List, [], ◌∷◌, ◌++◌, append_assoc, append-nil}
use mathlib.Core.Option.{none, some}
use lib.ListN.{drop}
use Rattle.std.specs.Prelude.{Ok, Err}
use Rattle.definition.specs.Answers.{Checked, refused, accepted}
use Rattle.definition.specs.Refusals.{refusal_number}
use Rattle.definition.specs.Options.{Table}
use Rattle.definition.specs.Values.{Value}
use Rattle.definition.specs.Writing.{Place}
use Rattle.definition.specs.Reading.{at_offset}
use Rattle.definition.specs.declared.State.{State}
use Rattle.definition.specs.declared.Offset.{Offset}
use Rattle.definition.specs.declared.Op.{Op}
use Rattle.definition.specs.declared.Refusal.{Refusal}
use Rattle.laws.proofs.Traces.{read_value}
use Rattle.format.specs.Steps.{next_at}
use Rattle.format.proofs.Walking as Walk
use Rattle.decode.specs.Readings.{value_of}
use Rattle.fetch.specs.Fetching.{Stands, place_in, Fetches}
use Rattle.decode.specs.declared.Reading.{Reading}
use Rattle.fetch.specs.declared.Fetched.{Fetched}
use Rattle.read_pass.specs.Runs.{read_at}

-- of the data d and the format f by the table t, w is the whole run: the values vs were read, and the place is at a state and at an item
pub record SoFar (t : Table) (f d : List ℕ) (w : Checked (Place ℕ × List Value)) (at : ℕ) (s : State) (vs : List Value) : Type 0 where
  pub walk : Walk.Walked read_value [] ◌++◌ t w f at (place_in d s) vs
  pub stands : Stands d s

pub from_start : (t : Table) (f d : List ℕ) (s : State) (at : ℕ) → at ≡ 0 → Stands d s → SoFar t f d (read_at t f d s) at s []
from_start t f d s at e h = record { walk = Walk.walk_none read_value [] ◌++◌ (λ vs. refl) append-nil append_assoc t f at (place_in d s) e; stands = h }

module _ {t : Table} {f d : List ℕ} {w : Checked (Place ℕ × List Value)} {at : ℕ} {s : State} {vs : List Value} (h : SoFar t f d w at s vs) where
  pub run_end : next_at t at (drop at f) ≡ accepted none → w ≡ accepted (place_in d s, vs)
  run_end q = Walk.walk_end read_value [] ◌++◌ (λ vs. refl) append-nil append_assoc h.walk q

  pub run_refusal : {k : ℕ} → next_at t at (drop at f) ≡ refused k → w ≡ refused k
  run_refusal q = Walk.walk_refusal read_value [] ◌++◌ (λ vs. refl) append-nil append_assoc h.walk q

  -- the item at the place does o, and the next one stands at p
  module _ {o : Op} {p : ℕ} (q : next_at t at (drop at f) ≡ accepted (some (o, p))) where
    pub item_refused : {e : Refusal} → Fetches d s o (Err e) → w ≡ refused (refusal_number e)
    item_refused g = Walk.walk_refused read_value [] ◌++◌ (λ vs. refl) append-nil append_assoc h.walk q (sym g.says)

    on : {x : State} {a : List Value} → Stands d x → read_value (place_in d s) o ≡ accepted (place_in d x, a) → SoFar t f d w p x (vs ++ a)
    on i e = record { walk = Walk.walk_on read_value [] ◌++◌ (λ vs. refl) append-nil append_assoc h.walk q e; stands = i }

    pub item_set : {x : State} → Fetches d s o (Ok (Fetched.Set x)) → SoFar t f d w p x vs
    item_set {x} g = subst (SoFar t f d w p x) (append-nil vs) (on g.stands (sym g.says))

    pub item_read : {v : Reading} {x : Offset} → Fetches d s o (Ok (Fetched.Read v x)) → SoFar t f d w p (at_offset s x) (vs ++ (value_of d v ∷ []))
    item_read g = on (g.stands.0, h.stands.1) (sym g.says)
