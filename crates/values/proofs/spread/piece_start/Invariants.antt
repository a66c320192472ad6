use Prim.Native.Nat.{◌-◌}
use Rattle.values.proofs.Keeping.{Backing}
use Rattle.values.proofs.spread.piece_start.Given as goal

abbrev pub invariant-loop-p : goal.invariant-loop-p
invariant-loop-p l = Backing l.t l.from l.c (l.p - 1)
