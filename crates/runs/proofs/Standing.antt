-- A list that stands at the front of a run, and the run behind it.
use Prim.Native.Nat.{ℕ, ◌+◌, ◌≤◌}
use native.Mathlib.Omega.{arith}
use mathlib.Core.Path.{◌≡◌, sym, ap, ◌∙◌}
use mathlib.Core.List.{List, ◌++◌}
use lib.ListN.{length, take, drop, length-drop, take-append-drop}
use lib.Seq.{drop-drop, length-take-le}
use Rattle.definition.specs.Lists.{big_total}
use Rattle.laws.proofs.Runs.{at_list}
use Rattle.runs.specs.Entries.{Stands}

-- the first list, whose length is there and whose bytes are, and the rest
pub stands : (r : List ℕ) (n : ℕ) → n ≡ big_total (take 2 r) → 2 + n ≤ length r → Stands r (take n (drop 2 r)) (drop (2 + n) r)
stands r n e h = record {
  whole = ap (λ (q : List ℕ). take 2 r ++ (take n (drop 2 r) ++ q)) (sym (drop-drop n 2 r)) ∙ ap (λ (q : List ℕ). take 2 r ++ q) (take-append-drop n (drop 2 r)) ∙ take-append-drop 2 r;
  lengths = omega (arith, h, length-drop (2 + n) r, length-take-le n (drop 2 r) (omega (arith, h, length-drop 2 r)));
  first = at_list r n e h;
}
