use Rattle.std.proofs.Common.{◌≡◌, ◌<◌, true, set, refl, sym, ap, ◌∙◌, arith}
use Rattle.std.proofs.lemmas.List.{get_or-take}
use Rattle.listing.specs.Names.{most_names}
use Rattle.listing.specs.Lists.{text_of, bytes_at}
use Rattle.names.specs.Marked.{listable}
use Rattle.names.proofs.Searching.{number_few}
use Rattle.names.proofs.Marking.{value_empty, value_dollar, value_listed, value_fresh, value_new, listable_other}
use Rattle.names.proofs.table.Table.mark_value.Goals as goal

pub returns-then-span : goal.returns-then-span
returns-then-span c = value_empty _ _ _ _ _ c.requires.0 c.if-span.true

pub returns-then-self-span-eq36 : goal.returns-then-self-span-eq36
returns-then-self-span-eq36 c =
    let l = c.args.self.now.list in
    value_dollar _ (text_of l) _ _ _ c.if-span.false (omega (arith, l.long)) (get_or-take l.used l.text c.args.span.start 0 (omega arith) ∙ c.if-self-span-eq36.true)

pub offset_bounds-self-g : goal.offset_bounds-self-g
offset_bounds-self-g c = let l : c.in-Some.g < most_names = number_few c.args.self.now.list _ _ _ c.in-Some.ensures refl in omega arith

pub bounds-self-g : goal.bounds-self-g
bounds-self-g c = number_few c.args.self.now.list _ _ _ c.in-Some.ensures refl

pub list_row-requires : goal.list_row-requires
list_row-requires c = (c.requires.0, c.requires.1, c.requires.2, value_fresh c.args.self.now c.args.self.now _ c.args.row (sym c.in-None.ensures))

pub returns-in-Some : goal.returns-in-Some
returns-in-Some c =
    let t = c.args.self.now in
    let l = t.list in
    let some : listable (bytes_at l c.args.span) ≡ true =
    listable_other (text_of l) _ _ c.if-span.false (omega (arith, l.long))
    (λ z. c.if-self-span-eq36.false (sym (get_or-take l.used l.text c.args.span.start 0 (omega arith)) ∙ z)) in
    value_listed t _ c.in-Some.g _ c.args.row (sym c.in-Some.ensures) (number_few l _ _ _ c.in-Some.ensures refl) some refl (ap (set t.rows c.in-Some.g) c.union.ensures) refl _

pub returns-in-None : goal.returns-in-None
returns-in-None c =
    let t = c.args.self.now in
    let l = t.list in
    let some : listable (bytes_at l c.args.span) ≡ true =
    listable_other (text_of l) _ _ c.if-span.false (omega (arith, l.long))
    (λ z. c.if-self-span-eq36.false (sym (get_or-take l.used l.text c.args.span.start 0 (omega arith)) ∙ z)) in
    value_new t _ _ _ (sym c.in-None.ensures) c.requires.2 some c.list_row.ensures
