-- `reading::Reading::read_group`: refused, or one group more.
use Rattle.reading.proofs.GroupHeads.{name_room, group_refused, group_twice, group_more}
use Rattle.reading.proofs.Reading.read_group.Goals as goal

pub returns-in-Some : goal.returns-in-Some
returns-in-Some c = rw c.refusal.ensures (group_refused _ _ _ _ c.requires.1 c.requires.0 _ c.group_line-line.ensures _ c.in-Some.is)

pub define_group-requires : goal.define_group-requires
define_group-requires c =
    rw c.word-name.ensures (name_room _ c.args.names.now _ _ c.requires.1 c.requires.0 _ c.group_line-line.ensures c.in_default.is c.requires.2, c.requires.0.yes)

pub returns-in-Err : goal.returns-in-Err
returns-in-Err c =
    let q = rw c.word-name.ensures at c.define_group.ensures in
    rw c.refusal-in-Err.ensures (group_twice _ _ _ _ c.requires.1 c.requires.0 _ c.group_line-line.ensures c.in_default.is _ _ q _ c.in-Err.is)

pub returns : goal.returns
returns c =
    let q = rw c.word-name.ensures at c.define_group.ensures in
    rw c.closed-self.ensures (group_more _ _ _ _ c.requires.1 c.requires.0 _ c.group_line-line.ensures c.in_default.is _ _ q _ c.in_default-define_group.is)
