use native.Mathlib.Omega.{arith}
use Rattle.reading.proofs.file.no_set.Goals as goal

pub returns : goal.returns
returns c = record { some = omega arith; left = omega arith }
