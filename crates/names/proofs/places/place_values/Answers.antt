use Rattle.std.proofs.Common.{arith}
use Rattle.names.proofs.Placing.{short_texts, few_fields, values_placed}
use Rattle.names.proofs.places.place_values.Goals as goal

pub place_all_values-bounds-requires : goal.place_all_values-bounds-requires
place_all_values-bounds-requires c = let s = short_texts _ c.requires in (s.model, s.layouts, s.variants)

pub overflow_add-field_count : goal.overflow_add-field_count
overflow_add-field_count c = let f = few_fields _ (rw (← c.texts.view_is) at c.requires) in omega (arith, f.0, c.field_count.ensures)

pub unplace-requires : goal.unplace-requires
unplace-requires c = let f = few_fields _ (rw (← c.texts.view_is) at c.requires) in (omega (arith, f.0, c.field_count.ensures), omega arith)

pub overflow_add-field_count-2 : goal.overflow_add-field_count-2
overflow_add-field_count-2 c = let f = few_fields _ (rw (← c.texts.view_is) at c.requires) in omega (arith, f.1, c.field_count-2.ensures)

pub unplace-requires-2 : goal.unplace-requires-2
unplace-requires-2 c = let f = few_fields _ (rw (← c.texts.view_is) at c.requires) in (omega (arith, f.1, c.field_count-2.ensures), omega arith)

pub returns : goal.returns
returns c = rw (← c.texts.view_is) (values_placed _ (rw (← c.texts.view_is) at c.requires) _ _ _ _ _ c.field_count.ensures c.field_count-2.ensures (rw (← c.texts.view_is) at c.place_all_values-bounds.ensures) c.unplace.ensures c.unplace-2.ensures)
