use Rattle.rules.proofs.PlainLines.{Rights}
use Rattle.rules.proofs.plain.right_end.Given as goal

abbrev pub invariant-loop : goal.invariant-loop
invariant-loop l = Rights l.src.bytes.now l.src.fence l.indexed l.from l.n l.at l.counter
