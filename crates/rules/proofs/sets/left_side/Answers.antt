use native.Mathlib.Omega.{arith}
use mathlib.Core.Path.{refl}
use Rattle.rules.specs.Splitting.{words_of}
use Rattle.rules.proofs.Sides.{before_low, left_start, left_fails, left_stops, left_goes, lefts_whole}
use Rattle.rules.proofs.sets.left_side.Goals as goal

pub loop-j-init : goal.loop-j-init
loop-j-init c = left_start _ c.none.ensures refl

pub word-requires : goal.word-requires
word-requires c = omega (arith, before_low (words_of c.args.line.now.text.now))

pub returns-in_err-left_item : goal.returns-in_err-left_item
returns-in_err-left_item c =
    rw c.from_residual.ensures (left_fails _ _ (omega arith) _ c.word.ensures _ c.left_item.ensures c.in_err-left_item.was)

pub returns-in_err-side : goal.returns-in_err-side
returns-in_err-side c =
    rw c.from_residual-in_err-side.ensures
    (left_stops _ _ (omega arith) _ c.word.ensures _ c.left_item.ensures _ c.in_ok-left_item.was (c.in_err-side.ensures _ c.loop-j.invariant))

pub loop-j-preserved : goal.loop-j-preserved
loop-j-preserved c =
    left_goes _ _ (omega arith) _ c.word.ensures _ c.left_item.ensures _ c.in_ok-left_item.was _ (c.in_ok-side.ensures _ c.loop-j.invariant)

pub returns : goal.returns
returns c = rw (lefts_whole (words_of c.args.line.now.text.now) c.loop-j.j (omega arith)) at c.loop-j.invariant
