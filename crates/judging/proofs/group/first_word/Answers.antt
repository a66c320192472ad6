use Rattle.judging.proofs.GroupLines.{first_found, first_other, first_none}
use Rattle.judging.proofs.group.first_word.Goals as goal

pub returns-then-src-start-ne36 : goal.returns-then-src-start-ne36
returns-then-src-start-ne36 c = first_other _ _ _ _ _ _ _ c.in-Found.ensures c.if-src-start-ne36.true

pub returns-else-src-start-ne36 : goal.returns-else-src-start-ne36
returns-else-src-start-ne36 c = first_found _ _ _ _ _ _ _ c.in-Found.ensures c.if-src-start-ne36.false

pub returns-in-Stop : goal.returns-in-Stop
returns-in-Stop c = first_none _ c.args.from.at c.args.from.line c.in-Stop.ensures.none
