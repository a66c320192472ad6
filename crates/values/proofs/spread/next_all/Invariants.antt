use Rattle.values.proofs.Keeping.{Finding, bytes_behind}
use Rattle.values.proofs.spread.next_all.Given as goal

abbrev pub invariant-loop-colon : goal.invariant-loop-colon
invariant-loop-colon l = Finding l.t l.from l.colon

abbrev pub decreases-loop-colon : goal.decreases-loop-colon
decreases-loop-colon l = bytes_behind l.t l.colon
