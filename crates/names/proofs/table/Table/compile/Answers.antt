use Rattle.std.proofs.Common.{◌∙◌, arith}
use Rattle.profile.proofs.Counts.{few_options}
use Rattle.names.proofs.Placing.{short_texts, all_values_of, lies_options}
use Rattle.names.proofs.Asked.{star_fresh, table_compiled}
use Rattle.names.proofs.table.Table.compile.Goals as goal

pub copy_texts-star-requires : goal.copy_texts-star-requires
copy_texts-star-requires c = short_texts _ c.requires.0

pub list_row-requires : goal.list_row-requires
list_row-requires c =
    let a = c.copy_texts-star.ensures in
    (rw a.star (omega arith), rw (a.star, a.used) (omega arith), omega (arith, a.count), star_fresh c.copy_texts-star.new.self _ a.names)

pub mark_values-requires : goal.mark_values-requires
mark_values-requires c =
    let a = c.copy_texts-star.ensures in
    let u = c.list_row.ensures in
    let text = u.text ∙ a.text in
    (rw text (all_values_of _ c.requires.0 _ c.requires.1).placed, omega (arith, u.count, a.count))

pub overflow_add-base-2 : goal.overflow_add-base-2
overflow_add-base-2 c = let s = short_texts _ (rw (← c.texts.view_is) at c.requires.0) in omega (arith, s.model, s.layouts, s.variants)

pub mark_options-requires : goal.mark_options-requires
mark_options-requires c =
    let a = rw (← c.texts.view_is) at c.copy_texts-star.ensures in
    let u = c.list_row.ensures in
    let m = c.mark_values.ensures in
    let text = m.text ∙ (u.text ∙ a.text) in
    (rw text (lies_options _), omega (arith, m.few, u.count, a.count, few_options _ (rw (← c.texts.view_is) at c.requires.0)))

pub returns : goal.returns
returns c =
    rw (← c.texts.view_is)
    (table_compiled _ _ _ _ _ _ _ _ _ (rw (← c.texts.view_is) at c.requires.0)
    (all_values_of _ (rw (← c.texts.view_is) at c.requires.0) _ (rw (← c.texts.view_is) at c.requires.1))
    (rw (← c.texts.view_is) at c.copy_texts-star.ensures) c.some_set.ensures c.some_set-2.ensures c.list_row.ensures c.mark_values.ensures c.mark_options.ensures)
