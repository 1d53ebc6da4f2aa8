-- The digits of the part behind a place are in it; behind the text there are none.
use Rattle.std.proofs.Common.{◌-◌, ◌+◌, ap, ◌∙◌, take, drop, length, length-take, length-drop, arith}
use Rattle.definition.specs.Items.{digits}
use Rattle.numeral.proofs.Digits.{digits_length, part_rest}
use Rattle.numeral.proofs.skip_digits.Goals as goal

pub overflow_add-result : goal.overflow_add-result
overflow_add-result c =
    let s = c.args.text.now in
    let at = c.args.at in
    omega (arith, c.leading_digits.ensures, digits_length (take (length s - at) (drop at s)), length-take (length s - at) (drop at s), length-drop at s)

pub returns : goal.returns
returns c = ap (λ n. c.args.at + n) (c.leading_digits.ensures ∙ ap (λ l. length (digits l)) (part_rest c.args.at c.args.text.now))

pub returns-then-text-at : goal.returns-then-text-at
returns-then-text-at c =
    let rest = drop c.args.at c.args.text.now in
    omega (arith, digits_length rest, length-drop c.args.at c.args.text.now, c.if-text-at.true)
