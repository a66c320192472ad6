use native.Mathlib.Omega.{arith}
use Rattle.rules.proofs.Pieces.{plain_start, plain_four}
use Rattle.rules.proofs.percent.skip_plain.Goals as goal

pub loop-i-init : goal.loop-i-init
loop-i-init c = plain_start _

pub loop-i-preserved : goal.loop-i-preserved
loop-i-preserved c = plain_four _ _ c.loop-i.invariant (omega arith) c.if-w-i-eq37.false c.if-w-i-eq37-2.false c.if-w-i-eq37-3.false c.if-w-i-eq37-4.false
