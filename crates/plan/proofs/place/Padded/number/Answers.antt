-- What `word_of` says is what the definition encodes, or refuses.
use mathlib.Core.Path.{sym, ◌∙◌}
use Rattle.plan.proofs.Plans.{number_refused, number_long}
use Rattle.plan.proofs.place.Padded.number.Goals as goal

pub returns-in_err-word : goal.returns-in_err-word
returns-in_err-word c =
    let found = rw c.in_ok-value.ensures.ok_part at c.field.ensures in
    number_refused c.args.self _ _ c.requires.padded found _ c.from_residual-in_err-word.ensures.1 c.in_err-word.ensures

pub returns-then-not-fits_few : goal.returns-then-not-fits_few
returns-then-not-fits_few c =
    let found = rw c.in_ok-value.ensures.ok_part at c.field.ensures in
    number_long c.args.self _ _ c.requires.padded found _ c.in_ok-word.ensures (sym c.fits_few.ensures ∙ c.if-not-fits_few.true)
