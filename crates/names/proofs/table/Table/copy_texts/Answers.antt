use Rattle.std.proofs.Common.{arith}
use Rattle.names.proofs.Placing.{texts_copied}
use Rattle.names.proofs.table.Table.copy_texts.Goals as goal

pub append-requires : goal.append-requires
append-requires c = let s = rw (← c.texts.view_is) at c.requires in omega (arith, c.clear.ensures.used, s.model)

pub append-requires-2 : goal.append-requires-2
append-requires-2 c = let s = rw (← c.texts.view_is) at c.requires in omega (arith, c.append.ensures.used, c.clear.ensures.used, s.model, s.layouts)

pub append-requires-3 : goal.append-requires-3
append-requires-3 c =
    let s = rw (← c.texts.view_is) at c.requires in
    omega (arith, c.append-2.ensures.used, c.append.ensures.used, c.clear.ensures.used, s.model, s.layouts, s.variants)

pub append-requires-4 : goal.append-requires-4
append-requires-4 c =
    let s = rw (← c.texts.view_is) at c.requires in
    omega (arith, c.append-3.ensures.used, c.append-2.ensures.used, c.append.ensures.used, c.clear.ensures.used, s.model, s.layouts, s.variants, s.options)

pub append-requires-5 : goal.append-requires-5
append-requires-5 c =
    let s = rw (← c.texts.view_is) at c.requires in
    omega (arith, c.append-4.ensures.used, c.append-3.ensures.used, c.append-2.ensures.used, c.append.ensures.used, c.clear.ensures.used, s.model, s.layouts, s.variants, s.options)

pub returns : goal.returns
returns c =
    rw (← c.texts.view_is)
    (texts_copied _ _ _ _ _ _ _ _ _ _ _ _ c.clear.ensures c.append.ensures c.append-2.ensures c.append-3.ensures c.append-4.ensures c.append-5.ensures)
