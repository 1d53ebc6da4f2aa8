-- The byte at the place, and whether a digit follows it, say what is shown.
use Rattle.std.proofs.Common.{◌≡◌, ◌+◌, true, false, ◌∷◌, take, drop, sym, ap, ◌∙◌}
use Rattle.definition.specs.Items.{is_digit, digits}
use Rattle.numeral.specs.Numerals.{digit_first, read_on, reached}
use Rattle.numeral.proofs.Digits.{got, part_rest, short_past, short_none, short_long, short_zero, short_one}
use Rattle.numeral.proofs.peek.Goals as goal
use Rattle.numeral.proofs.peek.Goals.{After-read_digits}

-- the digit alone makes the number that is read
record Alone (c : After-read_digits) : Type 0 where
  digit : is_digit c.in-Some.b.now ≡ true
  last : digit_first (drop (c.args.at + 1) c.args.text.now) ≡ false
  read : reached c.read_digits.result c.read_digits.new.n c.read_digits.new.at ≡ read_on 0 c.args.at (digits (take 1 (c.in-Some.b.now ∷ drop (c.args.at + 1) c.args.text.now)))

alone : (c : After-read_digits) → Alone c
alone c =
    record {
      digit = sym c.if-not-is_ascii_digit.ensures.value;
      last = sym (c.if-digit_first.ensures ∙ ap digit_first (part_rest (c.args.at + 1) c.args.text.now));
      read = c.read_digits.ensures ∙ ap (λ l. read_on 0 c.args.at (digits (take 1 l))) (got _ _ _ c.in-Some.ensures.lookup.3);
    }

pub returns-in_default : goal.returns-in_default
returns-in_default c = short_past _ _ c.in_default.ensures.lookup.3

pub returns-then-not-is_ascii_digit : goal.returns-then-not-is_ascii_digit
returns-then-not-is_ascii_digit c = rw (got _ _ _ c.in-Some.ensures.lookup.3) (short_none _ _ (sym c.if-not-is_ascii_digit.ensures.value))

pub returns-then-digit_first : goal.returns-then-digit_first
returns-then-digit_first c =
    let next = sym (c.if-digit_first.ensures ∙ ap digit_first (part_rest (c.args.at + 1) c.args.text.now)) in
    rw (got _ _ _ c.in-Some.ensures.lookup.3) (short_long _ _ (sym c.if-not-is_ascii_digit.ensures.value) next)

pub returns-then-n-eq0 : goal.returns-then-n-eq0
returns-then-n-eq0 c =
    let a = alone (goal.at.returns-then-n-eq0 c).After-read_digits in
    rw (got _ _ _ c.in-Some.ensures.lookup.3) (short_zero _ _ a.digit a.last _ _ _ _ a.read c.if-n-eq0.true)

pub returns-else-n-eq0 : goal.returns-else-n-eq0
returns-else-n-eq0 c =
    let a = alone (goal.at.returns-else-n-eq0 c).After-read_digits in
    rw (got _ _ _ c.in-Some.ensures.lookup.3) (short_one _ _ a.digit a.last _ _ _ _ a.read c.if-n-eq0.false)
