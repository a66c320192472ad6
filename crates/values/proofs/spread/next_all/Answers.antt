use native.Mathlib.Omega.{arith}
use mathlib.Core.Path.{sym}
use Rattle.rules.proofs.Pieces.{tail_whole}
use Rattle.values.proofs.Keeping.{finding_start, finding_end, finding_more, finding_less, first_here, colon_inside}
use Rattle.values.proofs.spread.next_all.Goals as goal

pub loop-colon-init : goal.loop-colon-init
loop-colon-init c = finding_start _ _ _ c.requires c.to_colon-colon.ensures

pub returns-then-closes_all : goal.returns-then-closes_all
returns-then-closes_all c =
    let v = rw c.in-Some.is at c.loop-colon.invariant in
    first_here _ _ _ v (rw (tail_whole c.args.t.now c.in-Some.c (omega (arith, colon_inside _ _ _ v))) at (sym c.if-closes_all.ensures))

pub loop-colon-smaller : goal.loop-colon-smaller
loop-colon-smaller c =
    let v = rw c.in-Some.is at c.loop-colon.invariant in
    rw c.in-Some.is (finding_less _ _ _ v _ c.to_colon-colon-in-Some.ensures)

pub loop-colon-preserved : goal.loop-colon-preserved
loop-colon-preserved c =
    let v = rw c.in-Some.is at c.loop-colon.invariant in
    finding_more _ _ _ v (rw (tail_whole c.args.t.now c.in-Some.c (omega (arith, colon_inside _ _ _ v))) at (sym c.if-closes_all.ensures)) _ c.to_colon-colon-in-Some.ensures

pub returns : goal.returns
returns c = finding_end _ _ (rw c.in_default.is at c.loop-colon.invariant)
