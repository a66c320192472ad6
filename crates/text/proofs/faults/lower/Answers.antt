use native.Mathlib.Omega.{arith}
use Rattle.text.proofs.Told.{lower_first, lower_second}
use Rattle.text.proofs.faults.lower.Goals as goal

pub returns-then-number : goal.returns-then-number
returns-then-number c = lower_second _ _ _ _ c.in-Some-Some.is-0 c.in-Some-Some.is-1 (omega arith)

pub returns-else-number : goal.returns-else-number
returns-else-number c = lower_first _ _ _ _ c.in-Some-Some.is-0 c.in-Some-Some.is-1 (omega arith)
