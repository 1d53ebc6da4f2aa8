-- `text_of` meets its contract: a text that passes the test is one that a `Span` holds.
use mathlib.Core.Path.{refl}
use Rattle.decode.proofs.text_of.Goals as goal

pub returns : goal.returns
returns c = record { fits = _; is = refl }
