use Rattle.card.proofs.ReadLoops.{Measured}
use Rattle.card.proofs.reading.Sections.lengths.Given as goal

abbrev pub invariant-loop-i : goal.invariant-loop-i
invariant-loop-i l = Measured l.self.texts l.lengths l.i
