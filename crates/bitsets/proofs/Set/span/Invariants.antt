use Prim.Native.Nat.{◌-◌}
use Rattle.bitsets.specs.Sets.{Spans}
use Rattle.bitsets.proofs.Set.span.Given as goal

abbrev pub invariant-loop-k : goal.invariant-loop-k
invariant-loop-k l = Spans l.first (l.k - l.first) l.set
