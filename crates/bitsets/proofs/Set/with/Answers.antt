use Rattle.bitsets.proofs.Bits.{in_with}
use Rattle.bitsets.proofs.Set.with.Goals as goal

pub returns : goal.returns
returns c = rw (← c.self.view_is) (λ j. in_with _ _ j c.requires)
