use Rattle.xkbrules.proofs.Ways.{packs, entered, refused_code}
use Rattle.xkbrules.proofs.xkbrules_resolve.Goals as goal

pub returns-in-Ok : goal.returns-in-Ok
returns-in-Ok c = entered _ _ _ _ _ _ c.in-Ok.ensures

pub packed-requires : goal.packed-requires
packed-requires c = packs _ _ _ _ _ _ _ c.in-Err.ensures

pub returns-in-Err : goal.returns-in-Err
returns-in-Err c = refused_code _ _ _ _ _ _ _ c.in-Err.ensures _ c.packed.ensures
