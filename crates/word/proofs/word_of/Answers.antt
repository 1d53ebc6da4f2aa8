-- Each kind has its own function.
use Rattle.std.proofs.Common.{arith, eqb→eq}
use Rattle.word.proofs.Words.{of_kind, of_small, valid_as, says_bits, double_is}
use Rattle.word.proofs.word_of.Goals as goal

pub returns-in-SmallSigned : goal.returns-in-SmallSigned
returns-in-SmallSigned c = let n = c.args.number.size in λ l. of_small n _ c.any_integer.result c.in-SmallSigned.is (c.any_integer.ensures l n)

pub returns-in-Double : goal.returns-in-Double
returns-in-Double c =
    let n = c.args.number.size in
    let e = c.in-Double.is in
    λ l. of_kind n _ c.bits.result e (says_bits n _ c.bits.result (omega (arith, eqb→eq n 8 (valid_as n c.args.number.valid e))) (c.bits.ensures l) (double_is n _))
