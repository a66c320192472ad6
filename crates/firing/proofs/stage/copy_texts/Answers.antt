use Prim.Native.Nat.{ℕ}
use native.Mathlib.Omega.{arith}
use mathlib.Core.Path.{◌≡◌, refl}
use lib.ListN.{length, length-take}
use Rattle.text.specs.Bytes.{part}
use Rattle.firing.proofs.StageLoops.{copying_none, copying_inside, copying_room, copying_more, copying_end}
use Rattle.firing.proofs.stage.copy_texts.Goals as goal

pub loop-i-init : goal.loop-i-init
loop-i-init c = copying_none _ _ _

pub slice_bounds-store-end : goal.slice_bounds-store-end
slice_bounds-store-end c =
    let m : length c.args.lengths ≡ 10 = omega arith in
    copying_inside _ _ _ _ _ _ c.loop-i.invariant c.requires.1 (omega (arith, c.requires.0)) (omega arith)

pub store-requires : goal.store-requires
store-requires c =
    let m : length c.args.lengths ≡ 10 = omega arith in
    omega (arith, length-take {A = ℕ}, copying_room _ _ _ _ _ _ c.loop-i.invariant c.requires.2 (omega arith))

pub loop-i-preserved : goal.loop-i-preserved
unfolding part
loop-i-preserved c =
    let m : length c.args.lengths ≡ 10 = omega arith in
    copying_more _ _ _ _ _ _ c.loop-i.invariant _ _ (omega arith) refl (copying_inside _ _ _ _ _ _ c.loop-i.invariant c.requires.1 (omega (arith, c.requires.0)) (omega arith)) c.store.ensures

pub returns : goal.returns
returns c =
    let m : length c.args.lengths ≡ 10 = omega arith in
    copying_end _ _ _ _ _ _ c.loop-i.invariant c.requires.1 (omega (arith, c.requires.0)) c.requires.2 (omega arith)
