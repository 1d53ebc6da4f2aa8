-- `get_bytes`: the word is the number of the k lowest bytes.
use Rattle.load.proofs.Gathering.{Gathered}
use Rattle.load.proofs.get_bytes.Given as goal

abbrev pub invariant-loop-k : goal.invariant-loop-k
invariant-loop-k l = Gathered l.big l.bytes l.word l.k
