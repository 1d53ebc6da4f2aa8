-- The integer that was found, or a float modulo 2^64.
use Rattle.std.proofs.Common.{sym, ap, ◌∙◌, arith}
use mathlib.Core.Option.{Option}
use Rattle.definition.specs.Answers.{refused, or_else}
use Rattle.word.proofs.Words.{says_integer, says_bits, of_kind_12, of_integer, of_none}
use Rattle.word.proofs.size_word.Goals as goal

pub returns-in-Some : goal.returns-in-Some
returns-in-Some c = λ l n h. says_integer n _ _ (omega arith) c.to_word.ensures (of_integer n _ _ (sym (c.in-Some.ensures l))).size

pub returns-in-None : goal.returns-in-None
returns-in-None c =
    λ l n h. rw c.ok_or.ensures.value (says_bits n _ _ h (of_kind_12 c.as_wrapped.result ∙ ap (λ (m : Option _). or_else m (refused 12)) (c.as_wrapped.ensures l)) (of_none n _ (sym (c.in-None.ensures l))).size)
