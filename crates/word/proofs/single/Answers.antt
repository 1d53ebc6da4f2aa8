-- The number that was found, rounded, or 12.
use Rattle.std.proofs.Common.{ℕ, pos, sym, ap, ◌∙◌}
use Rattle.laws.proofs.Exits.{exit_is}
use Rattle.single.specs.Single.{to_single}
use Rattle.definition.specs.Answers.{Checked, accepted, ◌>>=◌}
use Rattle.word.proofs.Words.{says_pattern, says_refused, single_is}
use Rattle.word.proofs.single.Goals as goal

pub returns-in_err-b : goal.returns-in_err-b
returns-in_err-b c =
    λ l n h. rw (exit_is c.from_residual.ensures.1) (says_refused n _ (single_is n _ ∙ ap (λ (x : Checked ℕ). x >>= λ b. accepted (pos (to_single b))) (sym (c.in_err-b.ensures l))))

pub returns : goal.returns
returns c =
    λ l n h. says_pattern n _ h (single_is n _ ∙ ap (λ (x : Checked ℕ). x >>= λ b. accepted (pos (to_single b))) (sym (c.in_ok-b.ensures l)) ∙ rw (c.from.ensures, c.to_single.ensures))
