-- The entry of the byte behind X tells what X takes and aligns by.
use Rattle.std.proofs.Common.{◌≡◌, ◌∙◌, drop}
use Rattle.operand.specs.Operands.{natural_at}
use Rattle.options.specs.Packed.{entry_at, table_at}
use Rattle.operand.proofs.Alignments.{natural_nil, natural_high, natural, front, single, fixed, plain, numeral, other, none}
use Rattle.operand.proofs.behind_x.Goals as goal
use Rattle.operand.proofs.behind_x.Goals.{After-entry-e}

-- what the entry says is what X takes and aligns by
behind : (c : After-entry-e) → natural (entry_at c.entry-e.result) (drop 1 c.args.rest.now) ≡ natural_at (table_at c.args.table.now.entries) c.args.rest.now
behind c = front _ _ _ c.in-Some.ensures.value c.if-b-ge128.false _ c.entry-e.ensures

pub returns-in_default-clause-same : goal.returns-in_default-clause-same
returns-in_default-clause-same c = natural_nil _ _ c.in_default.ensures.value

pub returns-then-b-ge128-clause-same : goal.returns-then-b-ge128-clause-same
returns-then-b-ge128-clause-same c = natural_high _ _ _ c.in-Some.ensures.value c.if-b-ge128.true

pub returns-then-e-eq-SINGLE-clause-same : goal.returns-then-e-eq-SINGLE-clause-same
returns-then-e-eq-SINGLE-clause-same c =
    single _ _ c.if-e-eq-SINGLE.true _ c.skip_digits.ensures ∙ behind (goal.at.returns-then-e-eq-SINGLE-clause-same c).After-entry-e

pub returns-then-e-lt-FIXED_END-clause-same : goal.returns-then-e-lt-FIXED_END-clause-same
returns-then-e-lt-FIXED_END-clause-same c =
    rw c.size_of.ensures (fixed _ _ c.if-e-lt-FIXED_END.true c.if-e-eq-SINGLE.false) ∙ behind (goal.at.returns-then-e-lt-FIXED_END-clause-same c).After-entry-e

pub returns-then-e-lt-PLAIN_END-clause-same : goal.returns-then-e-lt-PLAIN_END-clause-same
returns-then-e-lt-PLAIN_END-clause-same c =
    plain _ _ c.if-e-lt-FIXED_END.false c.if-e-lt-PLAIN_END.true ∙ behind (goal.at.returns-then-e-lt-PLAIN_END-clause-same c).After-entry-e

pub returns-then-e-lt-UNSIGNED_END-clause-same : goal.returns-then-e-lt-UNSIGNED_END-clause-same
returns-then-e-lt-UNSIGNED_END-clause-same c =
    numeral c.entry-e.result _ _ (rw c.entry-e.ensures (c.args.table.now.sizes c.in-Some.field-0.now)) c.if-e-lt-PLAIN_END.false c.if-e-lt-UNSIGNED_END.true
    ∙ behind (goal.at.returns-then-e-lt-UNSIGNED_END-clause-same c).After-entry-e

pub returns-then-e-lt-ALIGN_END-clause-same : goal.returns-then-e-lt-ALIGN_END-clause-same
returns-then-e-lt-ALIGN_END-clause-same c =
    other _ _ c.if-e-lt-UNSIGNED_END.false c.if-e-lt-ALIGN_END.true ∙ behind (goal.at.returns-then-e-lt-ALIGN_END-clause-same c).After-entry-e

pub returns-clause-same : goal.returns-clause-same
returns-clause-same c = none _ _ c.if-e-lt-ALIGN_END.false ∙ behind (goal.at.returns-clause-same c).After-entry-e
