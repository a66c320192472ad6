use Rattle.firing.proofs.StageLoops.{Counting}
use Rattle.firing.proofs.stage.lengths_between.Given as goal

abbrev pub invariant-loop-i : goal.invariant-loop-i
invariant-loop-i l = Counting l.starts l.ends l.lengths l.i
