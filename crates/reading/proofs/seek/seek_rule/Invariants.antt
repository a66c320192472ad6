-- `reading::seek::seek_rule`: the walk over rules and left words. The outer loop: the lines so far are passed over. The inner: the layouts and the words that are left
-- say the same as all of them.
use Prim.Native.Nat.{◌-◌}
use mathlib.Core.Path.{◌≡◌}
use lib.ListN.{length}
use Rattle.reading.specs.declared.Sought.TheVariants as sought
use Rattle.reading.proofs.Seeks.{LeftGoing, Seeking}
use Rattle.reading.proofs.seek.seek_rule.Given as goal

abbrev pub invariant-loop-column : goal.invariant-loop-column
invariant-loop-column l = LeftGoing l.names l.o l.src.bytes.now l.initial.x.end.at l.column-index l.x

abbrev pub invariant-rules : goal.invariant-rules
invariant-rules l = record {
  seeking : Seeking l.names l.o l.src.bytes.now l.initial.here.at l.initial.here.line l.here.at l.here.line;
  found : l.found ≡ sought.End;
}

abbrev pub decreases-rules : goal.decreases-rules
decreases-rules l = length l.src.bytes.now - l.here.at
