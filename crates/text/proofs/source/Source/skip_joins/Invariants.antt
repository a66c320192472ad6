use Prim.Native.Nat.{◌-◌}
use lib.ListN.{length}
use Rattle.text.proofs.Readers.{Joining}
use Rattle.text.proofs.source.Source.skip_joins.Given as goal

abbrev pub invariant-loop-end : goal.invariant-loop-end
invariant-loop-end l = Joining l.self.bytes.now l.fn.from.at l.fn.from.line l.at l.line

abbrev pub decreases-loop-end : goal.decreases-loop-end
decreases-loop-end l = length l.self.bytes.now - l.at
