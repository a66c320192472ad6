use native.Mathlib.Omega.{arith}
use Rattle.firing.specs.Writing.{based_at}
use Rattle.firing.proofs.Regions.{low_at}
use Rattle.firing.proofs.Going.{fire_over, fire_nothing, fire_add, fire_skip, fire_base, region_low, moves_on, put_moved}
use Rattle.firing.proofs.Beginnings.{none_spread, some_spread, sign_spread}
use Rattle.firing.proofs.writing.fire.Goals.{else-not-addition-via-then-not-addition+else-next-component, else-not-addition-via-else-not-addition}
use Rattle.firing.proofs.writing.fire.Goals as goal

pub returns-then-component-gt4 : goal.returns-then-component-gt4
returns-then-component-gt4 c =
    fire_over _ _ _ _ c.requires.5 c.if-component-gt4.true

pub returns-then-is_empty : goal.returns-then-is_empty
returns-then-is_empty c =
    fire_nothing _ _ _ _ (none_spread _ _ c.requires.0 c.if-is_empty.ensures)

pub returns-then-next-component : goal.returns-then-next-component
returns-then-next-component c =
    fire_skip c.args.component _ _ _ c.requires.5 (omega (arith, c.if-component-gt4.false)) (some_spread _ _ c.requires.0 c.if-is_empty.ensures) (sign_spread _ _ c.requires.0 _ _ c.is_signed-addition.ensures c.if-not-addition.true) c.if-next-component.true

pub offset_bounds-next-r : goal.offset_bounds-next-r
offset_bounds-next-r c =
    omega (arith, region_low c.args.component _ c.is_signed-addition.result (omega (arith, c.if-component-gt4.false)) c.region-r.ensures)

pub bounds-next-r : goal.bounds-next-r
bounds-next-r c =
    region_low c.args.component _ c.is_signed-addition.result (omega (arith, c.if-component-gt4.false)) c.region-r.ensures

pub put_spread-end-requires : goal.put_spread-end-requires
put_spread-end-requires c =
    (c.requires.0, c.requires.1, c.requires.2, c.requires.3, low_at _ _ c.requires.4)

pub offset_bounds-next-r-2 : goal.offset_bounds-next-r-2
offset_bounds-next-r-2 c =
    omega (arith, region_low c.args.component _ c.is_signed-addition.result (omega (arith, c.if-component-gt4.false)) c.region-r.ensures)

pub bounds-next-r-2 : goal.bounds-next-r-2
bounds-next-r-2 c =
    region_low c.args.component _ c.is_signed-addition.result (omega (arith, c.if-component-gt4.false)) c.region-r.ensures

pub overflow_sub-next : goal.overflow_sub-next
overflow_sub-next c =
    (moves_on _ _ _ _ _ (low_at _ _ c.requires.4) c.put_spread-end.ensures).0

pub overflow_add-next : goal.overflow_add-next
overflow_add-next c =
    omega (arith, (moves_on _ _ _ _ _ (low_at _ _ c.requires.4) c.put_spread-end.ensures).1, c.requires.5)

pub returns-then-addition : goal.returns-then-addition
returns-then-addition c =
    fire_add c.args.component _ _ _ c.requires.5 (omega (arith, c.if-component-gt4.false)) (some_spread _ _ c.requires.0 c.if-is_empty.ensures) _ _ c.region-r.ensures c.if-addition.true _ _ (sign_spread _ _ c.requires.0 _ _ c.is_signed-addition.ensures c.if-addition.true) (put_moved _ _ _ _ _ _ c.put_spread-end.ensures)

pub returns : goal.returns
unfolding based_at
returns c =
    fire_base c.args.component _ _ _ c.requires.5 (omega (arith, c.if-component-gt4.false)) (some_spread _ _ c.requires.0 c.if-is_empty.ensures) _ _ c.region-r.ensures c.if-addition.false _ _ (sign_spread _ _ c.requires.0 _ _ c.is_signed-addition.ensures c.if-addition.false)
    (elim c.else-not-addition.branch [ else-not-addition-via-then-not-addition+else-next-component w ↦ w.if-next-component.false | else-not-addition-via-else-not-addition w ↦ absurd (cc (w.if-not-addition.false, c.if-addition.false)) ]) (put_moved _ _ _ _ _ _ c.put_spread-end.ensures)
