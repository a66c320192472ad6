use native.Mathlib.Omega.{arith}
use Rattle.values.proofs.Keeping.{inside_text}
use Rattle.values.proofs.Spreading.{counting_start, counting_end, counting_few, counting_more}
use Rattle.values.proofs.spread.spread_length.Goals as goal

pub loop-c-init : goal.loop-c-init
loop-c-init c = counting_start _ _

pub more_length-requires : goal.more_length-requires
more_length-requires c =
    let f = c.in-Some.ensures in
    (f.free.low, inside_text _ _ _ f, c.requires.0, c.requires.1, c.requires.2)

pub overflow_add-m : goal.overflow_add-m
overflow_add-m c = omega (arith, c.in-Some.ensures.free.low, c.in-Some.ensures.free.high, c.loop-c.invariant.most, c.requires.2)

pub loop-c-preserved : goal.loop-c-preserved
loop-c-preserved c = counting_more _ _ _ _ c.loop-c.invariant _ c.in-Some.ensures c.requires.0 c.requires.1 _ c.more_length.ensures

pub returns : goal.returns
returns c = counting_end _ _ _ _ c.loop-c.invariant c.in_default.ensures

pub overflow_add-m-in-Some-2 : goal.overflow_add-m-in-Some-2
overflow_add-m-in-Some-2 c =
    let f = c.in-Some.ensures in
    omega (arith, f.free.low, f.free.high, c.loop-c.invariant.most, c.requires.2, counting_few _ _ _ _ c.loop-c.invariant _ f c.requires.0 c.requires.1 _ c.more_length.ensures)

pub loop-c-smaller : goal.loop-c-smaller
loop-c-smaller c = let f = c.in-Some.ensures in omega (arith, f.free.low, inside_text _ _ _ f)
