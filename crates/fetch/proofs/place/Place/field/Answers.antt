-- `field` meets its contract: the rest behind the alignment, and there the value, by the option.
use native.Mathlib.Omega.{arith}
use mathlib.Core.Path.{ap}
use lib.ListN.{length}
use Rattle.laws.proofs.Exits.{exit_is}
use Rattle.fetch.proofs.Places.{field_pad_refused, field_refused, field_after}
use Rattle.fetch.proofs.place.Place.field.Goals as goal

pub returns-in_err-rest-in-Number : goal.returns-in_err-rest-in-Number
returns-in_err-rest-in-Number c =
    rw (exit_is c.from_residual.ensures.1) (field_pad_refused c.natural.ensures c.in_err-rest-in-Number.ensures)

pub returns-in_err-number-in-Number : goal.returns-in_err-number-in-Number
returns-in_err-number-in-Number c =
    rw (exit_is c.from_residual-in_err-number-in-Number.ensures.1) (field_refused c.natural.ensures c.in_ok-rest-in-Number.ensures c.in-Number.is c.in_err-number-in-Number.ensures)

pub returns-in_ok-number-in-Number : goal.returns-in_ok-number-in-Number
returns-in_ok-number-in-Number c =
    field_after c.natural.ensures c.in_ok-rest-in-Number.ensures c.in-Number.is c.in_ok-number-in-Number.ensures c.after.ensures

pub returns-in_err-rest-in-Counted : goal.returns-in_err-rest-in-Counted
returns-in_err-rest-in-Counted c =
    rw (exit_is c.from_residual-in_err-rest-in-Counted.ensures.1) (field_pad_refused c.natural-in-Counted.ensures c.in_err-rest-in-Counted.ensures)

pub returns-in_err-counted-in-Counted : goal.returns-in_err-counted-in-Counted
returns-in_err-counted-in-Counted c =
    rw (exit_is c.from_residual-in_err-counted-in-Counted.ensures.1) (field_refused c.natural-in-Counted.ensures c.in_ok-rest-in-Counted.ensures c.in-Counted.is c.in_err-counted-in-Counted.ensures)

pub returns-in_ok-counted-in-Counted : goal.returns-in_ok-counted-in-Counted
returns-in_ok-counted-in-Counted c =
    field_after c.natural-in-Counted.ensures c.in_ok-rest-in-Counted.ensures c.in-Counted.is c.in_ok-counted-in-Counted.ensures c.after-in-Counted.ensures

pub returns-in_err-rest-in-Chars : goal.returns-in_err-rest-in-Chars
returns-in_err-rest-in-Chars c =
    rw (exit_is c.from_residual-in_err-rest-in-Chars.ensures.1) (field_pad_refused c.natural-in-Chars.ensures c.in_err-rest-in-Chars.ensures)

pub returns-in_err-text-in-Chars : goal.returns-in_err-text-in-Chars
returns-in_err-text-in-Chars c =
    rw (exit_is c.from_residual-in_err-text-in-Chars.ensures.1) (field_refused c.natural-in-Chars.ensures c.in_ok-rest-in-Chars.ensures c.in-Chars.is (c.in_err-text-in-Chars.ensures c.args.self.state.big))

pub after-requires-in-Chars : goal.after-requires-in-Chars
after-requires-in-Chars c = omega (arith, ap length c.in_ok-rest-in-Chars.ensures.kept, (c.in_ok-text-in-Chars.ensures c.args.self.state.big).inside.1)

pub returns-in_ok-text-in-Chars : goal.returns-in_ok-text-in-Chars
returns-in_ok-text-in-Chars c =
    field_after c.natural-in-Chars.ensures c.in_ok-rest-in-Chars.ensures c.in-Chars.is (c.in_ok-text-in-Chars.ensures c.args.self.state.big) c.after-in-Chars.ensures

pub returns-in_err-rest-in-ZeroEnded : goal.returns-in_err-rest-in-ZeroEnded
returns-in_err-rest-in-ZeroEnded c =
    rw (exit_is c.from_residual-in_err-rest-in-ZeroEnded.ensures.1) (field_pad_refused c.natural-in-ZeroEnded.ensures c.in_err-rest-in-ZeroEnded.ensures)

pub returns-in_err-zero_ended-in-ZeroEnded : goal.returns-in_err-zero_ended-in-ZeroEnded
returns-in_err-zero_ended-in-ZeroEnded c =
    rw (exit_is c.from_residual-in_err-zero_ended-in-ZeroEnded.ensures.1) (field_refused c.natural-in-ZeroEnded.ensures c.in_ok-rest-in-ZeroEnded.ensures c.in-ZeroEnded.is (c.in_err-zero_ended-in-ZeroEnded.ensures c.args.self.state.big))

pub after-requires-in-ZeroEnded : goal.after-requires-in-ZeroEnded
after-requires-in-ZeroEnded c = omega (arith, ap length c.in_ok-rest-in-ZeroEnded.ensures.kept, (c.in_ok-zero_ended-in-ZeroEnded.ensures c.args.self.state.big).inside.1)

pub returns-in_ok-zero_ended-in-ZeroEnded : goal.returns-in_ok-zero_ended-in-ZeroEnded
returns-in_ok-zero_ended-in-ZeroEnded c =
    field_after c.natural-in-ZeroEnded.ensures c.in_ok-rest-in-ZeroEnded.ensures c.in-ZeroEnded.is (c.in_ok-zero_ended-in-ZeroEnded.ensures c.args.self.state.big) c.after-in-ZeroEnded.ensures
