-- What is read of a part that is lent to a call, by the list that it is a part of.
use Rattle.std.proofs.Common.{◌≡◌, ℕ, ◌+◌, ◌^◌, ◌<◌, ◌≤◌, Bool, List, length, take, drop}
use Rattle.std.proofs.Math.Seq.{take-length}
use Rattle.definition.specs.Bytes.{total, low}
use Rattle.definition.specs.Fields.{number}
use Rattle.laws.proofs.Bytes.{length_part, number_is}
use Rattle.words.specs.Digits.{low_bytes}
use Rattle.load.specs.Numbers.{unsigned_at, signed_at}
use Rattle.load.proofs.Gathering.{number_all}

-- the part of d from `at` on, of m bytes: m is n, as b - at is where the part ends at b
module _ (o : Bool) (n at m : ℕ) (d : List ℕ) (e : m ≡ n) (h : at + n ≤ length d) where
  abbrev part : List ℕ
  part = take m (drop at d)

  length_is : length part ≡ n
  length_is = rw e (length_part n at d h)

  low_is : low_bytes o (length part) part ≡ low_bytes o n (drop at d)
  low_is = rw (take-length part, length_is, e)

  number_same : number o (length part) part ≡ number o n (drop at d)
  number_same = rw (number_all o part, number_is o n at d h, take-length part, length_is, e)

  pub word_part : {r : ℕ} → (r ≡ total (low_bytes o (length part) part)) × (r < 256 ^ low (length part)) → (r ≡ total (low_bytes o n (drop at d))) × (r < 256 ^ low n)
  word_part w = (rw low_is at w.0, rw length_is at w.1)

  pub unsigned_part : unsigned_at o (length part) part ≡ unsigned_at o n (drop at d)
  unsigned_part = rw number_same

  pub signed_part : signed_at o (length part) part ≡ signed_at o n (drop at d)
  signed_part = rw (number_same, length_is)
