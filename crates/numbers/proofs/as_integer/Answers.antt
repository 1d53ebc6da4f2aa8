-- `as_integer` meets its contract: by the kind of the value, and a NaN equals no integer.
use Rattle.std.proofs.Common.{◌≡◌, ℕ, List, ◌⊎◌, inl, inr}
use mathlib.Core.Option.{none}
use Rattle.definition.specs.Values as definition
use Rattle.values.specs.Meaning.{meaning, Proper}
use Rattle.values.specs.declared.Value.{Value}
use Rattle.values.specs.declared.Value.TheVariants.{NotANumber, Text, Other}
use Rattle.numbers.proofs.Signs.{nan_of_bits}
use Rattle.numbers.proofs.as_integer.Goals as goal

without : (l : List ℕ) (v : Value) → Proper v → ((b : ℕ) × (v ≡ NotANumber b)) ⊎ (((s n : ℕ) × (v ≡ Text s n)) ⊎ (v ≡ Other)) → none ≡ definition.as_integer (meaning l v)
without l v p (inl (b, e)) = rw (e, nan_of_bits b (rw e at p))
without l v p (inr (inl (s, n, e))) = rw e
without l v p (inr (inr e)) = rw e

pub returns-in-NotANumber : goal.returns-in-NotANumber
returns-in-NotANumber c =
    let v = c.args.v.value in
    let p : Proper v = c.args.v.proper in
    λ l. without l v p c.in-NotANumber.is
