-- The range of the entry tells the class.
use mathlib.Core.Path.{◌∙◌}
use Rattle.format.proofs.Cursors.{plain_op, align_op}
use Rattle.operand.proofs.Entries.{at_fixed, at_plain, at_signed, at_unsigned, at_counted, at_chars, at_limit}
use Rattle.format.proofs.item.op_of.Goals as goal

pub returns-then-e-lt-FIXED_END : goal.returns-then-e-lt-FIXED_END
returns-then-e-lt-FIXED_END c =
    rw (at_fixed _ c.if-e-lt-FIXED_END.true, c.kind_of.ensures)

pub returns-then-e-lt-PLAIN_END : goal.returns-then-e-lt-PLAIN_END
returns-then-e-lt-PLAIN_END c =
    rw (at_plain _ c.if-e-lt-FIXED_END.false c.if-e-lt-PLAIN_END.true) (c.plain.ensures ∙ plain_op c.args.e c.args.n)

pub returns-then-e-lt-SIGNED_END : goal.returns-then-e-lt-SIGNED_END
returns-then-e-lt-SIGNED_END c =
    rw (at_signed _ c.if-e-lt-PLAIN_END.false c.if-e-lt-SIGNED_END.true)

pub returns-then-e-lt-UNSIGNED_END : goal.returns-then-e-lt-UNSIGNED_END
returns-then-e-lt-UNSIGNED_END c =
    rw (at_unsigned _ c.if-e-lt-SIGNED_END.false c.if-e-lt-UNSIGNED_END.true)

pub returns-then-e-lt-COUNTED_END : goal.returns-then-e-lt-COUNTED_END
returns-then-e-lt-COUNTED_END c =
    rw (at_counted _ c.if-e-lt-UNSIGNED_END.false c.if-e-lt-COUNTED_END.true)

pub returns-then-e-lt-CHARS_END : goal.returns-then-e-lt-CHARS_END
returns-then-e-lt-CHARS_END c =
    rw (at_chars _ c.if-e-lt-COUNTED_END.false c.if-e-lt-CHARS_END.true)

pub returns-then-e-lt-LIMIT_END : goal.returns-then-e-lt-LIMIT_END
returns-then-e-lt-LIMIT_END c =
    rw (at_limit _ c.if-e-lt-CHARS_END.false c.if-e-lt-LIMIT_END.true)

pub returns : goal.returns
returns c =
    align_op _ _ c.if-e-lt-LIMIT_END.false
