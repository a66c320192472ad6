use Prim.Native.Nat.{◌-◌}
use lib.ListN.{length}
use Rattle.text.proofs.Readers.{FastJoins}
use Rattle.text.proofs.source.Source.next_word.Given as goal

abbrev pub invariant-loop-start : goal.invariant-loop-start
invariant-loop-start l = FastJoins l.self.bytes.now l.self.fence l.fn.from.at l.fn.from.line l.start l.line

abbrev pub decreases-loop-start : goal.decreases-loop-start
decreases-loop-start l = length l.self.bytes.now - l.start
