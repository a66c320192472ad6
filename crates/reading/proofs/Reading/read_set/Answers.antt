-- `reading::Reading::read_set`: refused, or the set is opened.
use Rattle.reading.proofs.SetHeads.{set_refused, set_opened}
use Rattle.reading.proofs.Reading.read_set.Goals as goal

pub returns-in-Err : goal.returns-in-Err
returns-in-Err c = rw c.refusal.ensures (set_refused _ _ _ _ c.requires.1 _ c.set_line-line.ensures _ c.in-Err.is)

pub returns : goal.returns
returns c = set_opened _ _ _ _ c.requires.1 _ c.set_line-line.ensures _ c.in-Ok.is _ c.open-self.ensures
