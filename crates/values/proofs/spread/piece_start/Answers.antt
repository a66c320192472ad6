use native.Mathlib.Omega.{arith}
use mathlib.Core.Path.{◌≡◌, sym}
use Prim.Native.Nat.{◌+◌, ◌-◌}
use Rattle.values.proofs.Keeping.{backing_start, backing_more, backing_sign, backing_end}
use Rattle.values.proofs.spread.piece_start.Goals as goal

pub loop-p-init : goal.loop-p-init
loop-p-init c = let z : c.args.c + 1 - 1 ≡ c.args.c = omega arith in rw z (backing_start _ _ _ c.requires.0)

pub returns-then-is_sign : goal.returns-then-is_sign
returns-then-is_sign c = backing_sign _ _ _ _ c.loop-p.invariant (omega arith) (sym c.if-is_sign.ensures)

pub loop-p-preserved : goal.loop-p-preserved
loop-p-preserved c = backing_more _ _ _ _ c.loop-p.invariant (omega arith) (sym c.if-is_sign.ensures)

pub returns : goal.returns
returns c =
    let z : c.loop-p.p - 1 ≡ c.args.from = omega (arith, c.loop-p.invariant.low) in
    rw z at (backing_end _ _ _ _ c.loop-p.invariant (omega arith))
