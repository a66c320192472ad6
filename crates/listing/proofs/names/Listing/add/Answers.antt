use Rattle.std.proofs.Common.{◌≡◌, ◌+◌, ◌-◌, ◌≤◌, ◌<◌, length, refl, ap, ◌∙◌, arith}
use borrow.Rule.Slice.PartMut.{put_mid}
use Rattle.text.specs.Bytes.{part}
use Rattle.listing.specs.Names.{most_names, key_of, with_rank}
use Rattle.listing.specs.Lists.{text_of, bytes_at}
use Rattle.listing.proofs.Finding.{part_front}
use Rattle.listing.proofs.Adding.{adds_none_full, adds_none_again, new_by_gap, roomed_more, named_more, names_more}
use Rattle.listing.proofs.Ranks.{ranks_put, rank_gap}
use Rattle.listing.proofs.names.Listing.add.Goals.{After-put_first}
use Rattle.listing.proofs.names.Listing.add.Goals as goal

pub returns-then-n-eq-MOST_NAMES : goal.returns-then-n-eq-MOST_NAMES
returns-then-n-eq-MOST_NAMES c = adds_none_full _ _ c.if-n-eq-MOST_NAMES.true

pub returns-in_err-i : goal.returns-in_err-i
returns-in_err-i c = rw c.from_residual.ensures (adds_none_again _ _ c.in_err-i.ensures)

-- the key and the ranks that are kept
kept : (c : After-put_first) → c.key_of-key.result ≡ key_of (bytes_at c.args.self.now c.args.span)
unfolding part
kept c = let l = c.args.self.now in c.key_of-key.ensures ∙ ap key_of (part_front _ _ _ _ c.requires.0 (omega (arith, l.long)))

put : (c : After-put_first) → put_mid c.in_ok-i.i (c.args.self.now.count + 1 - c.in_ok-i.i) c.args.self.now.ranks c.put_first.new.numbers ≡ with_rank c.args.self.now.ranks c.in_ok-i.i c.args.self.now.count
put c = let l = c.args.self.now in rw c.put_first.ensures (ranks_put l.ranks c.in_ok-i.i l.count c.in_ok-i.ensures.few (omega (arith, l.named.few)))

pub invariant_of-self : goal.invariant_of-self
invariant_of-self c =
    let l = c.args.self.now in
    let few : l.count < most_names = omega (arith, l.named.few) in
    let high : c.args.span.end ≤ length (text_of l) = omega (arith, l.long) in
    record {
      room = l.room;
      long = l.long;
      roomed = roomed_more _ _ _ (omega arith) l.roomed c.requires.0 (omega (arith, l.room));
      named = rw (kept c, put c) (named_more _ _ _ _ _ l.named few _ high _ c.in_ok-i.ensures (omega arith) (omega arith) (omega arith));
    }

pub returns : goal.returns
returns c =
    let l = c.args.self.now in
    let few : l.count < most_names = omega (arith, l.named.few) in
    let high : c.args.span.end ≤ length (text_of l) = omega (arith, l.long) in
    let new = new_by_gap l c.args.span _ c.in_ok-i.ensures few in
    let c' = goal.at.returns c in
    record {
      result = rw new;
      count = rw new;
      spans = rw new;
      keys = rw (new, kept c'.After-put_first) refl;
      ranks = rw (new, put c'.After-put_first) (ap (λ i. with_rank l.ranks i l.count) (rank_gap _ _ _ _ _ _ c.in_ok-i.ensures));
      names = rw new (names_more _ _ _ _ _ l.named few _ high _ c.in_ok-i.ensures (omega arith) (omega arith) (omega arith));
      text = (refl, refl);
    }
