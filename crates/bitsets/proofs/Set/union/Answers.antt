use Rattle.bitsets.proofs.Bits.{in_or}
use Rattle.bitsets.proofs.Set.union.Goals as goal

pub returns : goal.returns
returns c = rw (← c.self.view_is, ← c.other.view_is) (λ j. in_or _ _ j)
