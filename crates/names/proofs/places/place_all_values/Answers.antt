use Rattle.std.proofs.Common.{refl, arith}
use Rattle.names.proofs.Placing.{all_values_placed}
use Rattle.names.proofs.places.place_all_values.Goals as goal

pub place_fields-requires : goal.place_fields-requires
place_fields-requires c =
    let h = rw (← c.texts.view_is) at c.requires in
    (omega arith, omega (arith, h.0, h.1))

pub place_fields-requires-2 : goal.place_fields-requires-2
place_fields-requires-2 c =
    let h = rw (← c.texts.view_is) at c.requires in
    (omega arith, omega (arith, h.0, h.1, h.2))

pub returns : goal.returns
returns c = rw (← c.texts.view_is) (all_values_placed _ _ _ _ refl refl c.place_fields.ensures c.place_fields-2.ensures)
