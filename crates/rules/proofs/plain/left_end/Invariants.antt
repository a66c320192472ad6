use Rattle.rules.proofs.PlainLines.{Lefts}
use Rattle.rules.proofs.plain.left_end.Given as goal

abbrev pub invariant-loop : goal.invariant-loop
invariant-loop l = Lefts l.src.bytes.now l.src.fence l.from l.n l.at l.counter
