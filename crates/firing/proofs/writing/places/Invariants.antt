use Rattle.firing.proofs.Placing.{Placing}
use Rattle.firing.proofs.writing.places.Given as goal

abbrev pub invariant-loop-i : goal.invariant-loop-i
invariant-loop-i l = Placing l.n-items l.at l.total l.i
