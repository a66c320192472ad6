use native.Mathlib.Omega.{arith}
use mathlib.Core.Path.{refl}
use Rattle.text.specs.Bytes.{bytes}
use Rattle.xkbresolve.proofs.Prints.{lined_start, lined_more, lined_end}
use Rattle.xkbresolve.proofs.printing.Page.put_components.Goals as goal

pub loop-c-init : goal.loop-c-init
unfolding bytes
loop-c-init c = lined_start _ _ _ _ refl

pub loop-c-preserved : goal.loop-c-preserved
loop-c-preserved c =
    lined_more _ _ _ _ _ _ _ _ _ _ _ c.loop-c.invariant (omega arith) c.component.ensures c.put.ensures c.put-in-loop-c.ensures c.put-in-loop-c-2.ensures

pub returns : goal.returns
returns c = lined_end _ _ _ _ _ _ c.loop-c.invariant (omega arith)
