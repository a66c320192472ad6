use native.Mathlib.Omega.{arith}
use Rattle.text.specs.Bytes.{part}
use Rattle.values.proofs.Keeping.{inside_text, short_kept}
use Rattle.values.proofs.Spreading.{spreading_start, spreading_end, spreading_copies, spreading_more, spread_behind}
use Rattle.values.proofs.spread.put_spread.Goals as goal

pub returns-then-out-at : goal.returns-then-out-at
returns-then-out-at c =
    spread_behind _ _ _ _ _ _ c.if-out-at.true c.spread_length.ensures c.past.ensures

pub returns-then-t-lt4 : goal.returns-then-t-lt4
returns-then-t-lt4 c = rw (← short_kept c.args.n c.args.t.now c.if-t-lt4.true) c.put.ensures

pub loop-c-init : goal.loop-c-init
loop-c-init c = spreading_start _ _ _ _ c.requires.3 c.requires.4

pub put_more-o-requires : goal.put_more-o-requires
put_more-o-requires c =
    let f = c.in-Some.ensures in
    let w = spreading_copies _ _ _ _ _ _ _ c.loop-c.invariant _ f c.requires.0 _ _ c.put_numbered-behind_first.ensures in
    (f.free.low, inside_text _ _ _ f, c.requires.0, c.requires.1, c.requires.2, omega (arith, w.long, c.requires.3), w.low)

pub loop-c-smaller : goal.loop-c-smaller
loop-c-smaller c = let f = c.in-Some.ensures in omega (arith, f.free.low, inside_text _ _ _ f)

pub loop-c-preserved : goal.loop-c-preserved
loop-c-preserved c =
    spreading_more _ _ _ _ _ _ _ c.loop-c.invariant _ c.in-Some.ensures c.requires.0 _ _ c.put_numbered-behind_first.ensures _ _ c.put_more-o.ensures

pub returns : goal.returns
unfolding part
returns c = spreading_end _ _ _ _ _ _ _ c.loop-c.invariant c.in_default.ensures _ _ c.put-2.ensures
