use Rattle.xkbrules.proofs.CardWays.{read_number, read_code}
use Rattle.xkbrules.proofs.cards.xkbrules_card_read.Goals as goal

pub returns-in-Ok : goal.returns-in-Ok
returns-in-Ok c = read_number _ _ _ _ _ c.in-Ok.ensures

pub returns-in-Err : goal.returns-in-Err
returns-in-Err c = read_code _ _ _ _ _ _ _ c.in-Err.ensures c.packed.ensures
