-- `rounded` meets its contract, as proofs/Nearest.antt has it: the shift loses no bit.
use Rattle.std.proofs.Common.{◌≡◌, ◌*◌, ◌%◌, ◌^◌, ◌<◌, mod-eq_of_lt, arith}
use lib.Count.{count_leading_zeros}
use Rattle.single.proofs.Leading.{topped}
use Rattle.numbers.proofs.Nearest.{bits_zero, bits_whole}
use Rattle.numbers.proofs.rounded.Goals as goal

pub returns-then-n-eq0 : goal.returns-then-n-eq0
returns-then-n-eq0 c = rw c.if-n-eq0.true bits_zero

pub returns : goal.returns
returns c =
    let n = c.args.n in
    let positive : 0 < n = omega (arith, c.if-n-eq0.false) in
    let top : n * 2 ^ count_leading_zeros 64 n % 2 ^ 64 ≡ n * 2 ^ count_leading_zeros 64 n = mod-eq_of_lt (topped n positive c.ranges.n.fits).fits in
    rw (c.from-zeros.ensures, rw (c.from-zeros.ensures, top) at c.nearest.ensures) (bits_whole n positive c.ranges.n.fits)
