-- The bytes of a word, and of its fill behind the eighth; a list that holds them is what a number is laid out as.
use Prim.Native.Nat.{ℕ, ◌*◌, ◌/◌, ◌%◌, ◌^◌, ◌≤◌, ◌<◌}
use mathlib.Core.Path.{◌≡◌, sym, ◌∙◌}
use mathlib.Core.Bool.{Bool}
use mathlib.Core.List.{List}
use lib.ListN.{length, get_or}
use lib.Seq.{ext_get_or}
use borrow.Author.Tests.{lt-ltb, le-ltb}
use native.Mathlib.Omega.{arith}
use Rattle.definition.specs.Bytes.{laid}
use Rattle.laws.proofs.Bytes.{length_laid}
use Rattle.words.specs.Digits.{byte_of, place_of}
use Rattle.words.proofs.Placing.{bits_of_bytes, laid_at}

pub byte_of_word : (word fill k : ℕ) → k < 8 → word / 2 ^ (8 * k) % 256 ≡ byte_of word fill k
byte_of_word word fill k h = rw (lt-ltb k 8 h, bits_of_bytes k)

pub byte_of_fill : (word fill k : ℕ) → 8 ≤ k → fill ≡ byte_of word fill k
byte_of_fill word fill k h = rw (le-ltb k 8 h)

pub laid_is : (o : Bool) (n word fill : ℕ) (s : List ℕ) → length s ≡ n → ((k : ℕ) → k < n → get_or s k 0 ≡ byte_of word fill (place_of o n k)) → s ≡ laid o n word fill
laid_is o n word fill s e h =
    ext_get_or 0 s (laid o n word fill) (e ∙ sym (length_laid o n word fill)) (λ k l. let m : k < n = omega arith in h k m ∙ sym (laid_at o n word fill k m))
