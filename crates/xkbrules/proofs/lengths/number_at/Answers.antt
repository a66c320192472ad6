use native.Mathlib.Omega.{arith}
use mathlib.Core.Path.{◌∙◌}
use Rattle.xkbrules.specs.Sheet.{number_at}
use Rattle.xkbrules.proofs.lengths.number_at.Goals as goal

pub returns : goal.returns
unfolding number_at
returns c = c.from_le_bytes.ensures ∙ omega arith
