use Prim.Native.Nat.{◌-◌}
use native.Mathlib.Omega.{arith}
use mathlib.Core.Path.{◌≡◌}
use Rattle.rules.specs.Splitting.{words_of}
use Rattle.rules.proofs.Sides.{right_start, right_fails, right_stops, right_goes, rights_whole}
use Rattle.rules.proofs.sets.right_side.Goals as goal

pub loop-j-init : goal.loop-j-init
loop-j-init c = let e : c.args.from - c.args.from ≡ 0 = omega arith in rw e (right_start _ c.none-components.ensures)

pub returns-in_err-component_of : goal.returns-in_err-component_of
returns-in_err-component_of c =
    rw c.from_residual.ensures (right_fails _ _ c.requires.0 _ (omega arith) (omega arith) _ c.word.ensures _ c.component_of.ensures c.in_err-component_of.was)

pub returns-in_err-components : goal.returns-in_err-components
returns-in_err-components c =
    rw c.from_residual-in_err-components.ensures
    (right_stops _ _ c.requires.0 _ (omega arith) (omega arith) _ c.word.ensures _ c.component_of.ensures _ c.in_ok-component_of.was _ c.loop-j.invariant c.in_err-components.ensures)

pub loop-j-preserved : goal.loop-j-preserved
loop-j-preserved c =
    right_goes _ _ c.requires.0 _ (omega arith) (omega arith) _ c.word.ensures _ c.component_of.ensures _ c.in_ok-component_of.was _ c.loop-j.invariant _ c.in_ok-components.ensures.0 c.in_ok-components.ensures.2

pub returns : goal.returns
returns c = rw (rights_whole (words_of c.args.line.now.text.now) c.args.from c.requires.0 c.loop-j.j (omega arith)) at c.loop-j.invariant
