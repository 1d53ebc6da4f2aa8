-- The integer's bits where it is in range, or 12.
use Rattle.std.proofs.Common.{ℤ, ap, sym, ◌∙◌, arith}
use Rattle.laws.proofs.Exits.{exit_is}
use Rattle.definition.specs.Answers.{Checked, ◌>>=◌}
use Rattle.word.specs.Words.{in_range, ranged_or}
use Rattle.word.proofs.Words.{says_ranged, says_refused, ranged_is}
use Rattle.word.proofs.ranged.Goals as goal

pub returns-in_err-z : goal.returns-in_err-z
returns-in_err-z c =
    let s = c.args.signed in
    let n = c.args.size.bytes in
    λ l. rw (exit_is c.from_residual.ensures.1) (says_refused n _ (ranged_is n _ s ∙ ap (λ (x : Checked ℤ). x >>= λ z. ranged_or (in_range s n z) z) (sym (c.in_err-z.ensures l))))

pub returns : goal.returns
returns c =
    let s = c.args.signed in
    let n = c.args.size.bytes in
    λ l. says_ranged (in_range s n) n c.in_ok-z.z c.in_range.result (omega arith) (ranged_is n _ s ∙ ap (λ (x : Checked ℤ). x >>= λ z. ranged_or (in_range s n z) z) (sym (c.in_ok-z.ensures l))) c.in_range.ensures
