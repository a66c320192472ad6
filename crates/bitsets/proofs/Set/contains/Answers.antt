use Rattle.bitsets.specs.Sets.{is_in}
use Rattle.bitsets.proofs.Set.contains.Goals as goal

pub returns : goal.returns
unfolding is_in
returns c = rw (← c.self.view_is)
