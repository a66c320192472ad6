-- `reading::left::left_word`: the next word held against a column, or none is left.
use Rattle.reading.proofs.LeftHolds.{held_word, held_none}
use Rattle.reading.proofs.left.left_word.Goals as goal

pub returns-in-Found : goal.returns-in-Found
returns-in-Found c = held_word _ _ _ _ _ _ _ _ _ _ c.in-Found.ensures (rw c.word.ensures at c.row-row.ensures) c.narrow.ensures

pub returns-in-Stop : goal.returns-in-Stop
returns-in-Stop c = held_none _ _ _ _ _ _ c.requires.high c.requires.few c.in-Stop.ensures
