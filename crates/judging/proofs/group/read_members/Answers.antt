use mathlib.Core.Path.{◌≡◌}
use mathlib.Core.Bool.{◌&&◌}
use Rattle.rules.specs.Words.{ordinary}
use Rattle.text.proofs.Passing.{passing_start, passing_word, passing_stop}
use Rattle.names.proofs.Joining.{joining_start, joining_more, joining_end}
use Rattle.judging.proofs.GroupLines.{judging_start, judging_more, judging_fault, judging_plain}
use Rattle.judging.proofs.group.read_members.Goals.{then-members, else-members}
use Rattle.judging.proofs.group.read_members.Goals as goal

pub loop-start-init : goal.loop-start-init
loop-start-init c =
    let w = c.requires in
    record {
      joining = joining_start _ _ _ _ w.high w.few;
      passing = passing_start _ _ _ w.high w.few;
      judging = judging_start _ _;
    }

pub loop-start-preserved : goal.loop-start-preserved
loop-start-preserved c =
    let v = c.loop-start.invariant in
    let u = c.in-Found.ensures in
    let o : c.if-members.members ≡ (c.loop-start.members.ordinary && ordinary c.word-word.result.now) =
    elim c.if-members.branch [
      | then-members w ↦ rw (w.members-is, w.if-members.true) w.is_ordinary.ensures
      | else-members w ↦ rw (w.members-is, w.if-members.false) cc
    ] in
    record {
      joining = joining_more _ _ _ _ _ _ v.joining _ _ _ _ _ _ u (rw c.word-word.ensures at c.row-row.ensures) c.union-members.ensures;
      passing = passing_word _ _ _ _ _ v.passing _ _ _ _ u;
      judging = judging_more _ _ _ _ _ v.judging _ _ _ _ _ _ _ u c.lower-members.ensures (rw c.word-word.ensures at o);
    }

pub returns-in-Stop : goal.returns-in-Stop
returns-in-Stop c =
    let v = c.loop-start.invariant in
    let u = c.in-Stop.ensures in
    record {
      fault = judging_fault _ _ _ _ _ v.judging _ _ _ u;
      ordinary = judging_plain _ _ _ _ _ v.judging _ _ _ u;
      joined = joining_end _ _ _ _ _ _ v.joining _ _ u;
      passed = passing_stop _ _ _ _ _ v.passing _ _ u;
    }
