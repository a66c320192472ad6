use Rattle.bitsets.proofs.Bits.{in_and}
use Rattle.bitsets.proofs.Set.intersection.Goals as goal

pub returns : goal.returns
returns c = rw (← c.self.view_is, ← c.other.view_is) (λ j. in_and _ _ j)
