-- The measure is the number of bytes left.
use Rattle.numeral.proofs.+read_digits.Given as goal

abbrev pub decreases-read_digits : goal.decreases-read_digits
decreases-read_digits l = l.left
