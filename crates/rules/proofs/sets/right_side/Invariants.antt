use Prim.Native.Nat.{◌-◌}
use lib.ListN.{take}
use Rattle.rules.specs.Splitting.{words_of}
use Rattle.rules.specs.Sides.{RightHeld}
use Rattle.rules.proofs.Sides.{rights}
use Rattle.rules.proofs.sets.right_side.Given as goal

abbrev pub invariant-loop-j : goal.invariant-loop-j
invariant-loop-j l = RightHeld (take (l.j - l.from) (rights (words_of l.line.text.now))) l.components
