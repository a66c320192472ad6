use Rattle.card.proofs.WriteLoops.{Putting}
use Rattle.card.proofs.writing.put_components.Given as goal

abbrev pub invariant-loop-length : goal.invariant-loop-length
invariant-loop-length l = Putting l.ten l.fn.lengths l.initial.card l.fn.at l.card l.rest l.at l.length-index
