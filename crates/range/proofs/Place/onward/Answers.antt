-- The greatest length goes on by the zeros and the bytes; the least, which does not pass it, follows.
use native.Mathlib.Omega.{arith}
use Rattle.range.proofs.Moves.{room, arrived, stays_limited, stays_ordered}
use Rattle.range.proofs.Place.onward.Goals as goal

-- the greatest length fits, and the least does not pass it
pub overflow_add-result : goal.overflow_add-result
overflow_add-result c = omega (arith, room c.args.self c.args.zeros c.args.bytes c.saturating_add.ensures c.in_ok-greatest.ensures)

pub overflow_add-result-2 : goal.overflow_add-result-2
overflow_add-result-2 c = omega (arith, room c.args.self c.args.zeros c.args.bytes c.saturating_add.ensures c.in_ok-greatest.ensures)

pub returns : goal.returns
returns c = arrived c.args.self c.args.zeros c.args.bytes c.saturating_add.ensures c.in_ok-greatest.ensures c.args.pairs.now

pub invariant_of-result : goal.invariant_of-result
invariant_of-result c = record {
  limited = stays_limited c.args.self c.args.zeros c.args.bytes c.saturating_add.ensures c.in_ok-greatest.ensures;
  ordered = stays_ordered c.args.self c.args.zeros c.args.bytes c.saturating_add.ensures c.in_ok-greatest.ensures c.requires;
}
