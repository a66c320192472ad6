use Rattle.std.proofs.Common.{arith}
use Rattle.names.proofs.Placing.{none_placed}
use Rattle.names.proofs.Names.new.Goals as goal

pub invariant_of-result : goal.invariant_of-result
invariant_of-result c =
    let e = c.new.ensures.list in
    record { few = omega (arith, e.count); counted = (omega arith, omega arith); placed = none_placed _ }
