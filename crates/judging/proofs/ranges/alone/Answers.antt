use Rattle.judging.proofs.LayoutRange.{alone_is}
use Rattle.judging.proofs.ranges.alone.Goals as goal

pub returns : goal.returns
returns c = alone_is _ _ c.from-count.ensures
