use Rattle.xkbresolve.proofs.Prints.{Lined}
use Rattle.xkbresolve.proofs.printing.Page.put_components.Given as goal

abbrev pub invariant-loop-c : goal.invariant-loop-c
invariant-loop-c l = Lined l.initial.self l.texts l.lengths l.name-items l.self l.c
