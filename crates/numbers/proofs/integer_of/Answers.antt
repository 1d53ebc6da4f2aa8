-- `integer_of` meets its contract: from 1 to below 2 ^ 64 it is whole where the shift back loses nothing.
use Rattle.std.proofs.Common.{◌∙◌, eq-eqb, ne_eqb}
use Rattle.numbers.proofs.Integers.{at_whole}
use Rattle.numbers.proofs.integer_of.Goals as goal

pub returns-then-whole-shift : goal.returns-then-whole-shift
returns-then-whole-shift c =
    at_whole c.args.bits c.if-exponent-lt-EXPONENT_OF_1.false c.if-exponent-gt-EXPONENT_OF_TOP.false (ne_eqb _ _ c.if-whole-shift.true)

pub returns : goal.returns
returns c =
    c.with_sign.ensures
    ∙ at_whole c.args.bits c.if-exponent-lt-EXPONENT_OF_1.false c.if-exponent-gt-EXPONENT_OF_TOP.false (eq-eqb _ _ c.if-whole-shift.false)
