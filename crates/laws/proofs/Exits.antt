-- What a function returns where `?` leaves it: the refusal that it met.
use mathlib.Core.Path.{◌≡◌, ap, ◌∙◌}
use Rattle.std.specs.Prelude.{Result, Err, IsErrAnd}
use Rattle.std.proofs.lemmas.Result.{err_from_is_err_and}

pub exit_is : {T E : Type 0} {e : E} {r : Result T E} → IsErrAnd r (λ y. y ≡ e) → r ≡ Err e
exit_is {r = r} h = let p = err_from_is_err_and r h in p.1 ∙ ap Err p.2
