use Rattle.card.proofs.ReadLoops.{Finding}
use Rattle.card.proofs.reading.Sections.find.Given as goal

abbrev pub invariant-loop-i : goal.invariant-loop-i
invariant-loop-i l = Finding l.card l.texts l.rest l.i
