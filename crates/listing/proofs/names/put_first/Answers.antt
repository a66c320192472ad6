use Rattle.std.proofs.Common.{arith}
use Rattle.listing.proofs.Ranks.{carried_start, carried_more, carried_end}
use Rattle.listing.proofs.names.put_first.Goals as goal

pub loop-place-init : goal.loop-place-init
loop-place-init c = carried_start _ _

pub loop-place-preserved : goal.loop-place-preserved
loop-place-preserved c =
    rw c.replace-carried.ensures.after
    (carried_more _ _ _ _ _ c.loop-place.invariant (omega (arith, c.loop-place.invariant.size)) _ c.replace-carried.ensures.value)

pub returns : goal.returns
returns c = carried_end _ _ _ _ _ c.loop-place.invariant c.loop-place-test.false
