use Rattle.std.proofs.Common.{◌+◌, length, drop, refl, ap, ◌∙◌, arith}
use lib.ListN.{length-append}
use Rattle.output.proofs.Stores.{drop_stored}
use Rattle.listing.proofs.Adding.{appended_bytes}
use Rattle.names.proofs.table.Table.add_name.Goals as goal

pub list_row-requires : goal.list_row-requires
list_row-requires c =
    let a = c.append-span.ensures in
    (rw (a.place, a.used) (omega arith), rw a.place (omega arith), rw a.count c.requires.1, rw (appended_bytes _ _ _ _ a, a.names) c.requires.2)

pub returns : goal.returns
returns c =
    let l = c.args.self.now.list in
    let a = c.append-span.ensures in
    let b = c.list_row.ensures in
    let w = appended_bytes _ _ _ _ a in
    record {
      text = b.text ∙ a.text;
      used = b.used ∙ ap length a.text;
      room =
          rw (ap length a.text) at b.room
          ∙ (ap (drop _) a.room ∙ drop_stored l.text l.used c.args.name.now _ (simp length-append (omega (arith, l.long))));
      count = b.count ∙ ap (λ k. k + 1) a.count;
      names = b.names ∙ rw (w, a.names) refl;
      rows = b.rows ∙ rw a.count refl;
      flags = b.flags ∙ rw w refl;
    }
