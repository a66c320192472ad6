use lib.ListN.{take}
use Rattle.rules.specs.Splitting.{words_of}
use Rattle.rules.specs.Sides.{LeftHeld}
use Rattle.rules.proofs.Sides.{lefts}
use Rattle.rules.proofs.sets.left_side.Given as goal

abbrev pub invariant-loop-j : goal.invariant-loop-j
invariant-loop-j l = LeftHeld (take l.j (lefts (words_of l.line.text.now))) l.side
