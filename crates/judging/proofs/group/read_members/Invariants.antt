use Prim.Native.Nat.{◌-◌}
use lib.ListN.{length}
use Rattle.text.proofs.Passing.{Passing}
use Rattle.text.specs.Told.{fault_number}
use Rattle.names.proofs.Joining.{Joining}
use Rattle.judging.proofs.GroupLines.{Judging}
use Rattle.judging.proofs.group.read_members.Given as goal

abbrev pub invariant-loop-start : goal.invariant-loop-start
invariant-loop-start l = record {
  joining : Joining l.src.bytes.now l.initial.members.next.at l.names.table l.members.row l.members.next.at l.members.next.line;
  passing : Passing l.src.bytes.now l.initial.members.next.at l.initial.members.next.line l.members.next.at l.members.next.line;
  judging : Judging l.src.bytes.now l.initial.members.next.at (fault_number l.members.fault) l.members.ordinary l.members.next.at;
}

abbrev pub decreases-loop-start : goal.decreases-loop-start
decreases-loop-start l = length l.src.bytes.now - l.members.next.at
