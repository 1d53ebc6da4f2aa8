-- A blank or a setting more at a format's front.
use Prim.Native.Nat.{ℕ, ◌+◌}
use mathlib.Core.Path.{◌≡◌, refl}
use mathlib.Core.List.{List, []}
use mathlib.Core.Option.{some}
use lib.ListN.{drop}
use Rattle.definition.specs.Answers.{accepted}
use Rattle.definition.specs.Options.{Table}
use Rattle.definition.specs.Values.{Value}
use Rattle.definition.specs.States.{start, set}
use Rattle.definition.specs.Writing.{output, nothing, ◌⊕◌, place, write_op, write}
use Rattle.definition.specs.declared.State.{State}
use Rattle.definition.specs.declared.Setting.{Setting}
use Rattle.definition.specs.declared.Op.TheVariants.{Blank, Set}
use Rattle.laws.proofs.Calls.{set_sound}
use Rattle.laws.proofs.Cutting.{nothing_left, nothing_right, join_assoc}
use Rattle.laws.proofs.Ops.{Sizes}
use Rattle.format.specs.Steps.{next_at}
use Rattle.format.proofs.Walking.{Walked, valid, ahead, walk_on}
use Rattle.front.specs.Leading.{Leads}

module _ {t : Table} {f : List ℕ} {at : ℕ} {s : State} (w : Leads t f at s) where
  -- how far writing has come with values vs
  walked : (vs : List Value) → Walked write_op nothing ◌⊕◌ t (write t start vs f) f at (place s vs) (output [] [] w.items)
  walked vs = record { is = w.same vs }

  pub leads_blank : {p : ℕ} → next_at t at (drop at f) ≡ accepted (some (Blank, p)) → Leads t f p s
  unfolding write_op
  leads_blank q = record {
    within = (ahead t f at q).1;
    sound = w.sound;
    items = w.items + 0;
    same = λ vs. (walk_on write_op nothing ◌⊕◌ nothing_left nothing_right join_assoc (walked vs) q refl).is;
  }

  pub leads_set : {p : ℕ} {x : Setting} {u : State} → next_at t at (drop at f) ≡ accepted (some (Set x, p)) → Sizes t → u ≡ set x s → Leads t f p u
  unfolding write_op
  leads_set {p} {x} {u} q sizes e = record {
    within = (ahead t f at q).1;
    sound = rw e (set_sound x s (valid t f at q sizes) w.sound);
    items = w.items + 1;
    same = λ vs. rw e (walk_on write_op nothing ◌⊕◌ nothing_left nothing_right join_assoc (walked vs) q refl).is;
  }
