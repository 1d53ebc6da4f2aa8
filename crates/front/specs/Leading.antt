-- What the settings at a format's front say of writing it.
use Rattle.std.specs.Prelude.{ℕ, ◌≤◌, ◌≡◌, List, [], length, drop}
use Rattle.definition.specs.Answers.{after}
use Rattle.definition.specs.Options.{Table}
use Rattle.definition.specs.Values.{Value}
use Rattle.definition.specs.States.{start}
use Rattle.definition.specs.Writing.{output, nothing, ◌⊕◌, write_op, write}
use Rattle.definition.specs.declared.State.{State}
use Rattle.laws.proofs.Calls.{Sound}

-- by the table t, the format f comes to the state s at `at`: with any values, writing f from the start state is writing what is left of f from s, with so many items more
pub record Leads (t : Table) (f : List ℕ) (at : ℕ) (s : State) : Type 0 where
  pub within : at ≤ length f
  pub sound : Sound s
  pub items : ℕ
  pub same : (vs : List Value) → write t start vs f ≡ after write_op nothing ◌⊕◌ (output [] [] items) (write t s vs (drop at f))
