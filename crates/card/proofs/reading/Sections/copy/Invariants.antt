use Rattle.card.proofs.ReadLoops.{Copying}
use Rattle.card.proofs.reading.Sections.copy.Given as goal

abbrev pub invariant-loop-text : goal.invariant-loop-text
invariant-loop-text l = Copying l.self.texts l.initial.buffer l.buffer l.at l.text-index
