-- `try_all` counts each format once at most.
use Rattle.std.proofs.Common.{◌≤◌}
use Rattle.conformance.proofs.random.try_all.Given as goal

abbrev pub invariant-loop : goal.invariant-loop
invariant-loop l = (l.counts.measured ≤ l.counter) × (l.counts.written ≤ l.counter) × (l.counts.disagree ≤ l.counter)
