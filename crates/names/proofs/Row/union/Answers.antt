use Rattle.std.proofs.Common.{refl}
use Rattle.names.specs.Compiled.{union}
use Rattle.names.proofs.Row.union.Goals as goal

pub returns : goal.returns
unfolding union
returns c = refl
