use Rattle.std.proofs.Common.{true, set, drop, refl, sym, ap, ◌∙◌, arith}
use Rattle.text.specs.Bytes.{part}
use Rattle.listing.specs.Lists.{bytes_at}
use Rattle.listing.proofs.Finding.{part_front}
use Rattle.listing.proofs.Adding.{is_new_lem}
use Rattle.names.specs.Compiled.{sieve_of}
use Rattle.names.proofs.Searching.{sieve_low}
use Rattle.names.proofs.table.Table.list_row.Goals as goal

pub bounds-self-f : goal.bounds-self-f
bounds-self-f c = rw c.sieve_of-f.ensures (sieve_low _)

pub returns : goal.returns
unfolding part
returns c =
    let l = c.args.self.now.list in
    let a = c.add.ensures in
    let new = is_new_lem l (bytes_at l c.args.span) c.requires.3 c.requires.2 in
    record {
      text = rw (a.text.0, a.text.1);
      used = a.text.1 ∙ sym l.long;
      room = ap (drop _) a.text.0;
      count = a.count ∙ rw new;
      names = a.names ∙ rw new;
      rows = refl;
      flags =
          ap (λ i. set c.args.self.now.flags i true) (c.sieve_of-f.ensures ∙ ap sieve_of (part_front _ _ _ _ c.requires.0 (omega (arith, l.long))));
    }
