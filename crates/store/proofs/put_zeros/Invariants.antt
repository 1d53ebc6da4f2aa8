-- `put_zeros` meets its contract: each turn writes one zero more.
use Rattle.std.proofs.Common.{◌≡◌, ◌++◌, drop, replicate}
use Rattle.store.proofs.put_zeros.Given as goal

abbrev pub invariant-loop-b : goal.invariant-loop-b
invariant-loop-b l = l.b-items ≡ replicate l.b-index 0 ++ drop l.b-index l.initial.b-items
