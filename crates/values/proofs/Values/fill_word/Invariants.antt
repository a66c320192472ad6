use Prim.Native.Nat.{◌-◌}
use lib.ListN.{length}
use Rattle.values.specs.Expanding.{as_profile}
use Rattle.values.proofs.Filling.{Going}
use Rattle.values.proofs.Values.fill_word.Given as goal

abbrev pub invariant-loop-i : goal.invariant-loop-i
invariant-loop-i l = Going (as_profile l.self) l.k l.w l.initial.scratch l.scratch l.i l.o

abbrev pub decreases-loop-i : goal.decreases-loop-i
decreases-loop-i l = length l.w - l.i
