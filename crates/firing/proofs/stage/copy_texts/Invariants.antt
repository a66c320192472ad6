use Rattle.firing.proofs.StageLoops.{Copying}
use Rattle.firing.proofs.stage.copy_texts.Given as goal

abbrev pub invariant-loop-i : goal.invariant-loop-i
invariant-loop-i l = Copying l.stage l.n-items l.initial.buf l.buf l.at l.i
