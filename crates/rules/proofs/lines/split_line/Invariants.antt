use Prim.Native.Nat.{◌-◌}
use lib.ListN.{length}
use Rattle.rules.proofs.Splits.{Splitting}
use Rattle.rules.proofs.lines.split_line.Given as goal

abbrev pub invariant-loop-start : goal.invariant-loop-start
invariant-loop-start l = Splitting l.heading l.src.bytes.now l.places l.tally l.fault l.from.at l.from.line

abbrev pub decreases-loop-start : goal.decreases-loop-start
decreases-loop-start l = length l.src.bytes.now - l.from.at
