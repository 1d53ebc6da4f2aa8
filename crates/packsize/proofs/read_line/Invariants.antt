-- The invariant: n bytes of the buffer are read. The measure is what is left of the buffer, since a read that puts nothing ends the loop.
use Rattle.std.proofs.Common.{◌-◌, ◌≤◌, length}
use Rattle.packsize.proofs.read_line.Given as goal

abbrev pub invariant-loop-reader : goal.invariant-loop-reader
invariant-loop-reader g l = l.n ≤ length l.input

abbrev pub decreases-loop-reader : goal.decreases-loop-reader
decreases-loop-reader g l = length l.input - l.n
