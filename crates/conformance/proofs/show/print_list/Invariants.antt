-- `print_list` ends with its bytes: each field has a tag and a length.
use Rattle.std.proofs.Common.{length}
use Rattle.conformance.proofs.show.print_list.Given as goal

abbrev pub decreases-loop-left : goal.decreases-loop-left
decreases-loop-left g l = length l.left
