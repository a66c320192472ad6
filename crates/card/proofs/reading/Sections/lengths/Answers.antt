use native.Mathlib.Omega.{arith}
use mathlib.Core.Path.{refl}
use Rattle.card.proofs.ReadLoops.{short_at, measured_start, measured_more, measured_end}
use Rattle.card.proofs.reading.Sections.lengths.Goals as goal

pub loop-i-init : goal.loop-i-init
loop-i-init c = measured_start _ _ refl

pub overflow_cast-lengths : goal.overflow_cast-lengths
overflow_cast-lengths c = omega (arith, short_at c.args.self.now.texts c.loop-i.i c.args.self.now.short (omega arith))

pub loop-i-preserved : goal.loop-i-preserved
loop-i-preserved c = measured_more _ _ _ c.loop-i.invariant (omega arith) (omega arith)

pub returns : goal.returns
returns c = measured_end _ _ _ c.loop-i.invariant (omega arith) (omega arith)
