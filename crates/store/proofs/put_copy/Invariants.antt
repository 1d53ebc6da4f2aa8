-- `put_copy` meets its contract: each turn writes one byte more of the text.
use Rattle.std.proofs.Common.{◌≡◌, ◌++◌, drop, take}
use Rattle.store.proofs.put_copy.Given as goal

abbrev pub invariant-loop-j : goal.invariant-loop-j
invariant-loop-j l = l.out ≡ take l.j l.text ++ drop l.j l.initial.out
