-- The byte at the place is the first of those left there, where any is left.
use Rattle.std.proofs.Common.{sym, ◌∙◌}
use Rattle.numeral.proofs.Digits.{got, on_end, on_past, on_byte}
use Rattle.numeral.proofs.digit_on.Goals as goal
use Rattle.numeral.proofs.digit_on.Goals.{then-left-eq0-via-then-left-eq0, then-left-eq0-via-else-left-eq0+then-not-is_ascii_digit}

pub returns-in_default : goal.returns-in_default
returns-in_default c = on_past _ _ _ _ c.in_default.ensures.lookup.3

pub returns-then-left-eq0 : goal.returns-then-left-eq0
returns-then-left-eq0 c =
    elim c.then-left-eq0.branch [
      | then-left-eq0-via-then-left-eq0 w ↦ on_end _ _ _ w.if-left-eq0.true
      | then-left-eq0-via-else-left-eq0+then-not-is_ascii_digit w ↦
          rw (got _ _ _ c.in-Some.ensures.lookup.3) (sym (on_byte _ _ _ _ w.if-left-eq0.false ∙ rw (← w.if-not-is_ascii_digit.ensures.value)))
    ]

pub returns : goal.returns
returns c =
    rw (got _ _ _ c.in-Some.ensures.lookup.3) (c.grown.ensures ∙ sym (on_byte _ _ _ _ c.if-left-eq0.false ∙ rw (← c.if-not-is_ascii_digit.ensures.value, c.from.ensures)))
