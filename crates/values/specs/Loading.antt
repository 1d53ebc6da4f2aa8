-- A number in the bytes of a list, the highest first.
use Rattle.std.specs.Prelude.{ℕ, ◌^◌, ◌<◌, ◌≡◌, List, take, drop}
use Rattle.definition.specs.Lists.{big_total}

-- r is the number that the n bytes of l from `at` write
pub record Loaded (l : List ℕ) (at n r : ℕ) : Type 0 where
  pub is : r ≡ big_total (take n (drop at l))
  pub below : r < 256 ^ n
