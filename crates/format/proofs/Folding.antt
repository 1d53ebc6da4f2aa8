-- A walk by the calls of a step: what is left of it decides it at each place, and it is the run of any step of the definition that each call answers as.
use Prim.Native.Nat.{ℕ}
use mathlib.Core.Path.{◌≡◌, refl, sym, ap, ◌∙◌}
use mathlib.Core.List.{List, [], ◌∷◌}
use mathlib.Core.Option.{none, some}
use lib.ListN.{drop}
use Rattle.std.specs.Prelude.{Result, Ok, Err}
use Rattle.definition.specs.Answers.{Checked, refused, accepted, ◌>>=◌, after, run, silent, run_silent}
use Rattle.definition.specs.Refusals.{refusal_number, answer_by}
use Rattle.definition.specs.Options.{Table}
use Rattle.definition.specs.Ops.{ops}
use Rattle.definition.specs.declared.Op.{Op}
use Rattle.definition.specs.declared.Refusal.{Refusal}
use Rattle.items.specs.declared.ValidOp.{ValidOp}
use Rattle.format.specs.Steps.{next_at}
use Rattle.format.specs.Walks.{Folded, ended, unread, stopped, gone_on}
use Rattle.format.proofs.Walking.{at_end, at_refusal, at_item}

module _ {S : Type 0} (post : S → ValidOp → Result S Refusal → Type 0) (t : Table) (f : List ℕ) (from : S) where
  -- the walk over f from a state has come to a place, and there to the state s
  pub record Left (at : ℕ) (s : S) : Type 0 where
    pub goes : (x : Result S Refusal) → Folded post s (ops t (drop at f)) x → Folded post from (ops t f) x

  pub left_start : (at : ℕ) → at ≡ 0 → Left at from
  left_start at e = record { goes = λ x w. rw e at w }

module _ {S : Type 0} {post : S → ValidOp → Result S Refusal → Type 0} {t : Table} {f : List ℕ} {from : S} {at : ℕ} {s : S} (h : Left post t f from at s) where
  -- what the items at the place do
  left_is : (is : List (Checked Op)) (x : Result S Refusal) → ops t (drop at f) ≡ is → Folded post s is x → Folded post from (ops t f) x
  left_is is x e w = h.goes x (rw e w)

  pub left_end : accepted none ≡ next_at t at (drop at f) → Folded post from (ops t f) (Ok s)
  left_end e = left_is [] (Ok s) (at_end t f at (sym e)) (ended s)

  pub left_unread : (r : Refusal) → refused (refusal_number r) ≡ next_at t at (drop at f) → Folded post from (ops t f) (Err r)
  left_unread r e = let i = at_refusal t f at (refusal_number r) (sym e) in left_is _ (Err r) i.1 (unread s r i.0)

  -- the item at the place is v, and the next one stands at the place p
  module _ (v : ValidOp) {o : Op} {p : ℕ} (q : v.op ≡ o) (e : accepted (some (o, p)) ≡ next_at t at (drop at f)) where
    are : ops t (drop at f) ≡ accepted v.op ∷ ops t (drop p f)
    are = (at_item t f at o p (sym e)).are ∙ ap (λ (i : Op). accepted i ∷ ops t (drop p f)) (sym q)

    pub left_stopped : (r : Refusal) → post s v (Err r) → Folded post from (ops t f) (Err r)
    left_stopped r c = left_is _ (Err r) are (stopped s v r _ c)

    pub left_on : (u : S) → post s v (Ok u) → Left post t f from p u
    left_on u c = record { goes = λ x w. left_is _ x are (gone_on s v u _ x c w) }

-- ---- for callers: a step of the definition, on what view makes of a state, that each call answers as
module _ {S A : Type 0} (post : S → ValidOp → Result S Refusal → Type 0) (view : S → A) (step : A → Op → Checked A)
    (said : (s : S) (v : ValidOp) (r : Result S Refusal) → post s v r → answer_by view r ≡ step (view s) v.op) where
  nothing_out : (c : Checked (A × Unit {0})) → (c >>= λ r. accepted r.0) ≡ (after (silent step) tt (λ a b. tt) tt c >>= λ r. accepted r.0)
  nothing_out (refused k) = refl
  nothing_out (accepted r) = refl

  pub folded : (s : S) (is : List (Checked Op)) (x : Result S Refusal) → Folded post s is x → answer_by view x ≡ run_silent step (view s) is
  folded s _ _ (ended _) = refl
  folded s _ _ (unread _ r is) = refl
  folded s _ _ (stopped _ v r is c) = rw (← said s v (Err r) c)
  folded s _ _ (gone_on _ v u is x c w) = rw (← said s v (Ok u) c) (folded u is x w ∙ nothing_out (run (silent step) tt (λ a b. tt) (view u) is))
