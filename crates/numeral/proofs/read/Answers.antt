-- The zeros at the front count for nothing; past them the digits are read with all bytes left.
use Rattle.std.proofs.Common.{◌≡◌, sym, ap, ◌∙◌, arith}
use Rattle.numeral.specs.Numerals.{reached}
use Rattle.numeral.proofs.Digits.{digits_length, front_of, found, front_none, front_rest}
use Rattle.numeral.proofs.read.Goals as goal
use Rattle.numeral.proofs.read.Goals.{After-read_digits}

-- what is read past the zeros is the numeral
numeral : (c : After-read_digits) → found (reached c.read_digits.result c.read_digits.new.n c.read_digits.new.at) ≡ front_of c.args.text.now
numeral c =
    let z = c.skip_zeros-end.ensures in
    ap found c.read_digits.ensures ∙ front_rest c.args.text.now c.skip_zeros-end.result (sym c.digit_first.ensures ∙ c.if-not-digit_first.false) z.same z.ends

pub returns-then-not-digit_first : goal.returns-then-not-digit_first
returns-then-not-digit_first c =
    front_none _ (sym c.digit_first.ensures ∙ c.if-not-digit_first.true)

pub overflow_sub-left : goal.overflow_sub-left
overflow_sub-left c =
    omega (arith, c.skip_zeros-end.ensures.ends, digits_length c.args.text.now)

pub returns-in-Some : goal.returns-in-Some
returns-in-Some c =
    rw c.in-Some.is at (numeral (goal.at.returns-in-Some c).After-read_digits)

pub returns-in-None : goal.returns-in-None
returns-in-None c =
    rw c.in-None.is at (numeral (goal.at.returns-in-None c).After-read_digits)
