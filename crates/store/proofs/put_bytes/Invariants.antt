-- `put_bytes` meets its contract: each turn writes the next byte of `laid`.
use Rattle.std.proofs.Common.{◌≡◌, ℕ, ◌<◌, get_or}
use Rattle.words.specs.Digits.{byte_of, place_of}
use Rattle.store.proofs.put_bytes.Given as goal

abbrev pub invariant-loop-j : goal.invariant-loop-j
invariant-loop-j l = (k : ℕ) → k < l.j → get_or l.out k 0 ≡ byte_of l.word l.fill (place_of l.big l.size k)
