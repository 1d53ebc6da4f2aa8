-- A walk over the items of a format by the calls of a step.
use Rattle.std.specs.Prelude.{List, [], ◌∷◌, Result, Ok, Err}
use Rattle.definition.specs.Answers.{Checked, refused, accepted}
use Rattle.definition.specs.Refusals.{refusal_number}
use Rattle.definition.specs.declared.Op.{Op}
use Rattle.definition.specs.declared.Refusal.{Refusal}
use Rattle.items.specs.declared.ValidOp.{ValidOp}

-- calls that answer as post says lead from a state over what items do to an answer: the state after the last item, or the first refusal, of an item or of a call
pub data Folded {S : Type 0} (post : S → ValidOp → Result S Refusal → Type 0) : S → List (Checked Op) → Result S Refusal → Type 0 where
  ended : (s : S) → Folded post s [] (Ok s)
  unread : (s : S) (r : Refusal) (is : List (Checked Op)) → Folded post s (refused (refusal_number r) ∷ is) (Err r)
  stopped : (s : S) (v : ValidOp) (r : Refusal) (is : List (Checked Op)) → post s v (Err r) → Folded post s (accepted v.op ∷ is) (Err r)
  gone_on : (s : S) (v : ValidOp) (u : S) (is : List (Checked Op)) (x : Result S Refusal) → post s v (Ok u) → Folded post u is x → Folded post s (accepted v.op ∷ is) x
