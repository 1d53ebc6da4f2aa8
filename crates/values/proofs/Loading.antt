-- A number of at most eight bytes in a list, the highest first, as `load` reads it.
use Prim.Native.Nat.{ℕ, ◌+◌, ◌^◌, ◌≤◌, ◌<◌}
use mathlib.Core.Path.{◌≡◌, ap, ◌∙◌}
use mathlib.Core.Bool.{true}
use mathlib.Core.List.{List, reverse}
use native.Mathlib.Omega.{arith}
use lib.ListN.{length, take, drop, length-reverse}
use lib.Seq.{take_all}
use Rattle.definition.specs.Bytes.{total, low}
use Rattle.laws.proofs.Bytes.{length_part}
use Rattle.words.specs.Digits.{low_bytes}
use Rattle.load.proofs.Parts.{word_part}
use Rattle.values.specs.Loading.{Loaded}

-- of the part of m bytes, which are n
pub loaded : (l : List ℕ) (at n m r : ℕ) → n ≤ 8 → at + n ≤ length l → m ≡ n → (r ≡ total (low_bytes true (length (take m (drop at l))) (take m (drop at l)))) × (r < 256 ^ low (length (take m (drop at l)))) → Loaded l at n r
loaded l at n m r h k e v =
    let w = word_part true n at m l e k v in
    let s : List ℕ = reverse (take n (drop at l)) in
    let q : low n ≡ n = omega arith in
    record {
      is = w.0 ∙ ap total (take_all (low n) s (omega (arith, length-reverse (take n (drop at l)), length_part n at l k)));
      below = rw q at w.1;
    }
