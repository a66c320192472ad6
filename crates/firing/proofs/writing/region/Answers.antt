use Rattle.firing.proofs.Going.{region_is}
use Rattle.firing.proofs.writing.region.Goals as goal

pub returns : goal.returns
returns c = region_is _ _ _ c.from.ensures
