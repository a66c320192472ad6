use native.Mathlib.Omega.{arith}
use mathlib.Core.Path.{refl}
use Rattle.firing.proofs.StageLoops.{reached_at, counting_none, counting_more, counting_end}
use Rattle.firing.proofs.stage.lengths_between.Goals as goal

pub loop-i-init : goal.loop-i-init
loop-i-init c = counting_none _ _ _ refl

pub overflow_sub-lengths : goal.overflow_sub-lengths
overflow_sub-lengths c =
    omega (arith, reached_at c.args.starts c.args.ends c.loop-i.i (omega arith) (omega arith) c.requires)

pub loop-i-preserved : goal.loop-i-preserved
loop-i-preserved c = counting_more _ _ _ _ (omega arith) (omega arith) (omega arith) c.loop-i.invariant

pub returns : goal.returns
returns c = counting_end _ _ _ _ (omega arith) (omega arith) c.loop-i.invariant
