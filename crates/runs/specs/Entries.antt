-- What stands at the front of a run, in the definition's terms.
use Rattle.std.specs.Prelude.{ℕ, ◌+◌, ◌≡◌, List, [], ◌++◌, length, take, Option, Some, None, Result, Ok, Err}
use Rattle.std.specs.Borrow.{Bor}
use Rattle.definition.specs.Answers.{refused, accepted}
use Rattle.definition.specs.Refusals.{refusal_number}
use Rattle.definition.specs.Trays.{lists}
use Rattle.definition.specs.declared.Refusal.{Refusal}
use Rattle.laws.proofs.Runs.{following}

-- a list behind its length in two bytes, and then the rest, which has the other lists
pub record Stands (r l rest : List ℕ) : Type 0 where
  pub whole : take 2 r ++ (l ++ rest) ≡ r
  pub lengths : 2 + (length l + length rest) ≡ length r
  pub first : lists r ≡ following l (lists rest)

-- what the code answers: the first list and the rest, none at the end, or the run's refusal
abbrev pub EntryRead : List ℕ → Result (Option (Bor (List ℕ) × Bor (List ℕ))) Refusal → Type 0
EntryRead r (Ok None) = lists r ≡ accepted []
EntryRead r (Ok (Some (l, rest))) = Stands r l.now rest.now
EntryRead r (Err e) = lists r ≡ refused (refusal_number e)
