use native.Mathlib.Omega.{arith}
use Rattle.xkbrules.proofs.CardWays.{write_done, write_refused}
use Rattle.xkbrules.proofs.Desk.{write_high}
use Rattle.xkbrules.proofs.cards.xkbrules_card_write.Goals as goal

pub packed-requires : goal.packed-requires
packed-requires c = omega (arith, (write_high _ _ _ _ _ c.in-Err.ensures.result).place)

pub returns-in-Ok : goal.returns-in-Ok
returns-in-Ok c = write_done _ _ _ _ _ _ c.in-Ok.ensures

pub returns-in-Err : goal.returns-in-Err
returns-in-Err c = write_refused _ _ _ _ _ _ _ c.in-Err.ensures c.packed.ensures
