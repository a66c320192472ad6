use native.Mathlib.Omega.{arith}
use Rattle.rules.specs.Splitting.{words_of}
use Rattle.rules.proofs.Sides.{before_low, set_many, set_left, set_right, set_some}
use Rattle.rules.proofs.sets.read_set.Goals as goal

pub returns-then-line-gt10 : goal.returns-then-line-gt10
returns-then-line-gt10 c = set_many _ (omega arith)

pub returns-in_err-left : goal.returns-in_err-left
returns-in_err-left c = rw c.from_residual.ensures (set_left _ c.in_err-left.ensures)

pub overflow_add-first : goal.overflow_add-first
overflow_add-first c = omega (arith, before_low (words_of c.args.line.now.text.now))

pub returns-in_err-components : goal.returns-in_err-components
returns-in_err-components c = rw c.from_residual-in_err-components.ensures (set_right _ c.in_err-components.ensures)

pub returns : goal.returns
returns c = rw c.unwrap_or.ensures (set_some _ _ c.in_ok-left.ensures _ c.in_ok-components.ensures)
