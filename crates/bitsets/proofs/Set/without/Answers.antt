use Rattle.std.proofs.Common.{rules}
use Rattle.bitsets.proofs.Bits.{in_without}
use Rattle.bitsets.proofs.Set.without.Goals as goal

pub returns : goal.returns
returns c = rw (← c.self.view_is, ← c.other.view_is) (λ j. in_without c.self.inside.bits c.other.inside.bits j (search rules) (search rules))
