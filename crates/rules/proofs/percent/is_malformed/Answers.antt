use native.Mathlib.Omega.{arith}
use Rattle.rules.proofs.Pieces.{sound_end, sound_byte, item_fits, sound_bad, sound_good, plain_sound}
use Rattle.rules.proofs.percent.is_malformed.Goals as goal

pub loop-i-init : goal.loop-i-init
loop-i-init c = plain_sound _ _ c.skip_plain-i.ensures _

pub loop-i-preserved-then-w-i-ne37 : goal.loop-i-preserved-then-w-i-ne37
loop-i-preserved-then-w-i-ne37 c = sound_byte _ _ _ c.loop-i.invariant c.loop-i-test.true c.if-w-i-ne37.true

pub returns-then-is_bad : goal.returns-then-is_bad
returns-then-is_bad c = sound_bad _ _ _ c.loop-i.invariant c.loop-i-test.true c.if-w-i-ne37.false _ c.piece_after-piece.ensures _ c.is_bad.ensures c.if-is_bad.true

pub overflow_add-i-in-loop-i-2 : goal.overflow_add-i-in-loop-i-2
overflow_add-i-in-loop-i-2 c = omega (arith, item_fits _ _ _ c.loop-i.invariant c.loop-i-test.true c.if-w-i-ne37.false _ c.piece_after-piece.ensures _ c.length-i.ensures)

pub loop-i-preserved : goal.loop-i-preserved
loop-i-preserved c = sound_good _ _ _ c.loop-i.invariant c.loop-i-test.true c.if-w-i-ne37.false _ c.piece_after-piece.ensures _ c.is_bad.ensures c.if-is_bad.false _ c.length-i.ensures

pub returns : goal.returns
returns c = sound_end _ _ _ c.loop-i.invariant c.loop-i-test.false
