use mathlib.Core.List.{◌∷◌}
use Rattle.values.proofs.Copying.{Copying}
use Rattle.values.proofs.spread.Copies.put.Given as goal

abbrev pub invariant-loop-k : goal.invariant-loop-k
invariant-loop-k l = Copying (l.self.sign ∷ l.self.rest.now) l.n l.initial.out l.out l.at l.k l.o
