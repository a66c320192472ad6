use Rattle.rules.proofs.PlainLines.{rights_more}
use Rattle.rules.proofs.plain.right_end.Goals as goal

pub loop-preserved : goal.loop-preserved
loop-preserved c = rights_more _ _ _ _ _ _ _ c.loop.invariant _ c.loop-test.true c.in_ok-at.ensures
