-- `step` meets its contract, by what the item does.
use Rattle.laws.proofs.Exits.{exit_is}
use Rattle.fetch.proofs.Places.{blank_op, set_op, pad_op_refused, pad_op}
use Rattle.fetch.proofs.place.Place.step.Goals as goal

pub returns-in-Blank : goal.returns-in-Blank
returns-in-Blank c = rw c.in-Blank.is (blank_op _ _ (c.args.self.within, c.args.self.limited))

pub returns-in-Set : goal.returns-in-Set
returns-in-Set c = rw c.in-Set.is (set_op _ _ (c.args.self.within, c.args.self.limited) _ (rw c.in-Set.is at c.args.op.valid) c.set.ensures)

pub returns-in_err-rest-in-Pad : goal.returns-in_err-rest-in-Pad
returns-in_err-rest-in-Pad c =
    rw (exit_is c.from_residual.ensures.1, c.in-Pad.is) (pad_op_refused c.in_err-rest-in-Pad.ensures)

pub returns-in_ok-rest-in-Pad : goal.returns-in_ok-rest-in-Pad
returns-in_ok-rest-in-Pad c = rw c.in-Pad.is (pad_op c.args.self.limited c.in_ok-rest-in-Pad.ensures c.at_offset.ensures)
