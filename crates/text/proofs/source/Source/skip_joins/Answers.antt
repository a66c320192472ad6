use Rattle.text.proofs.Readers.{joining_high, joining_more, joining_less}
use Rattle.text.proofs.source.Source.skip_joins.Goals as goal

pub skip-at-requires-in-Some : goal.skip-at-requires-in-Some
skip-at-requires-in-Some c = (joining_high _ _ _ _ _ c.loop-end.invariant _ c.join_end.ensures _ c.in-Some.is).1

pub loop-end-smaller : goal.loop-end-smaller
loop-end-smaller c = joining_less _ _ _ _ _ c.loop-end.invariant _ c.join_end.ensures _ _ c.in-Some.is c.skip-at-in-Some.ensures

pub loop-end-preserved : goal.loop-end-preserved
loop-end-preserved c = joining_more _ _ _ _ _ c.loop-end.invariant _ c.join_end.ensures _ _ c.in-Some.is c.skip-at-in-Some.ensures
