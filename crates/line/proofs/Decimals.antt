-- Numbers in decimal: std's are the definition's.
use Prim.Native.Nat.{ℕ, ◌<◌, ◌^◌}
use mathlib.Core.Path.{◌≡◌, sym}
use native.Mathlib.Omega.{arith}
use lib.ListN.{length}
use borrow.Author.Tests.{lt-ltb, le-ltb}
use Rattle.std.specs.Fmt.{decimal}
use Rattle.std.proofs.lemmas.Fmt.{AppendsLastDigit, decimal_from_appends, length-decimal-le}
use Rattle.definition.specs.Program.{decimal_in}
use Rattle.definition.specs.Program as program

appends : AppendsLastDigit decimal_in
unfolding decimal_in
appends = record {
  one = λ k n h. rw (lt-ltb n 10 h);
  more = λ k n h. rw (le-ltb n 10 h);
}

pub decimal_is : (n : ℕ) → n < 2 ^ 64 → decimal n ≡ program.decimal n
decimal_is n h = sym (decimal_from_appends decimal_in appends 20 n h (length-decimal-le 20 n (omega arith) (omega arith) h))

pub length_small : (n : ℕ) → n < 10 → length (program.decimal n) ≡ 1
unfolding decimal_in
length_small n h = rw (lt-ltb n 10 h)
