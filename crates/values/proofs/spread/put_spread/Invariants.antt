use Rattle.values.proofs.Spreading.{Spreading}
use lib.ListN.{length}
use Prim.Native.Nat.{◌-◌}
use Rattle.values.proofs.spread.put_spread.Given as goal

abbrev pub invariant-loop-c : goal.invariant-loop-c
invariant-loop-c l = Spreading l.t l.n l.initial.out l.out l.at l.i l.o

abbrev pub decreases-loop-c : goal.decreases-loop-c
decreases-loop-c l = length l.t - l.i
