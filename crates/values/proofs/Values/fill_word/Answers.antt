use native.Mathlib.Omega.{arith}
use Rattle.values.proofs.Filling.{going_start, going_byte, going_item, going_end, item_high}
use Rattle.values.proofs.Placed.{short_placed}
use Rattle.values.proofs.Values.fill_word.Goals as goal

pub loop-i-init : goal.loop-i-init
loop-i-init c =
    going_start _ _ _ _ c.requires.2

pub loop-i-preserved-then-b-ne37 : goal.loop-i-preserved-then-b-ne37
loop-i-preserved-then-b-ne37 c =
    going_byte _ _ _ _ _ _ _ c.loop-i.invariant c.loop-i-test.true _ _ c.if-b-ne37.true c.put_byte-o.ensures

pub put_piece-o-requires : goal.put_piece-o-requires
put_piece-o-requires c =
    (c.requires.0, omega (arith, c.loop-i.invariant.left.long, c.requires.2), c.loop-i.invariant.left.low)

pub overflow_add-i-in-loop-i : goal.overflow_add-i-in-loop-i
overflow_add-i-in-loop-i c =
    omega (arith, item_high c.args.w.now c.loop-i.i c.loop-i-test.true _ c.piece_after-p.ensures _ c.length-i.ensures)

pub loop-i-preserved : goal.loop-i-preserved
loop-i-preserved c =
    going_item _ _ _ _ _ _ _ c.loop-i.invariant c.loop-i-test.true _ _ c.if-b-ne37.false _ c.piece_after-p.ensures c.put_piece-o.ensures _ c.length-i.ensures

pub shape_of-scratch : goal.shape_of-scratch
shape_of-scratch c = c.loop-i.invariant.left.long

pub returns : goal.returns
returns c =
    going_end _ (short_placed _ _ c.args.self.now.placed _) _ _ _ _ _ _ c.loop-i.invariant c.loop-i-test.false c.requires.1 c.requires.2
