use native.Mathlib.Omega.{arith}
use mathlib.Core.Path.{refl}
use Rattle.firing.proofs.Placing.{placing_none, placing_more, placing_end}
use Rattle.firing.proofs.Regions.{low_at}
use Rattle.firing.proofs.writing.places.Goals as goal

pub loop-i-init : goal.loop-i-init
loop-i-init c = placing_none _ _ refl

pub overflow_add-total : goal.overflow_add-total
overflow_add-total c = omega (arith, c.loop-i.invariant.small, low_at c.args.lengths c.loop-i.i c.requires)

pub loop-i-preserved : goal.loop-i-preserved
loop-i-preserved c = placing_more _ _ _ _ (omega arith) c.requires (omega arith) c.loop-i.invariant

pub returns : goal.returns
returns c = placing_end _ _ _ _ (omega arith) (omega arith) c.loop-i.invariant
