use mathlib.Core.Path.{refl, ◌∙◌}
use Rattle.judging.proofs.GroupLines.{group_none, group_some}
use Rattle.judging.proofs.group.group_line.Goals as goal

pub returns-in-Found : goal.returns-in-Found
returns-in-Found c =
    let g = rw (c.word-name.ensures, c.word-equals.ensures) at c.is_group-good.ensures in
    let f = c.lower-fault.ensures ∙ rw c.lower.ensures refl in
    group_some _ _ c.requires _ _ _ _ _ c.in-Found.ensures _ c.read_members-members.ensures _ _ _ g f c.group_fault.ensures

pub returns-in-Stop : goal.returns-in-Stop
returns-in-Stop c = group_none _ _ c.requires _ _ _ _ c.in-Stop.ensures c.group_fault-in-Stop.ensures
