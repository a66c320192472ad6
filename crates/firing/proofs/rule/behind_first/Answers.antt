use Rattle.firing.proofs.ValueFires.{behind_word, behind_none}
use Rattle.text.proofs.Sources.{found, stopped}
use Rattle.firing.proofs.rule.behind_first.Goals as goal

pub returns-in-Found : goal.returns-in-Found
returns-in-Found c = behind_word _ _ _ _ _ _ _ (found _ _ _ _ _ _ _ _ c.in-Found.is c.word_at.ensures)

pub returns-in-Stop : goal.returns-in-Stop
returns-in-Stop c = behind_none _ _ _ c.requires.high c.requires.few _ _ (stopped _ _ _ _ _ _ c.in-Stop.is c.word_at.ensures)
