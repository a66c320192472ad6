use Rattle.values.proofs.Copying.{Storing}
use Rattle.values.proofs.spread.Copies.write.Given as goal

abbrev pub invariant-loop-k : goal.invariant-loop-k
invariant-loop-k l = Storing l.self.sign l.self.rest.now l.n l.initial.out l.out l.at l.k l.o
