use Rattle.std.proofs.Common.{◌≡◌, ◌+◌, ◌++◌, length, take, refl, ap, ◌∙◌, arith}
use Rattle.std.proofs.lemmas.List.{length-append}
use Rattle.output.proofs.Stores.{take_stored}
use Rattle.listing.proofs.Adding.{named_longer, names_longer}
use Rattle.listing.proofs.names.Listing.append.Goals as goal

pub invariant_of-self : goal.invariant_of-self
invariant_of-self c =
    let l = c.args.self.now in
    let w = c.args.bytes.now in
    let e : take (l.used + length w) c.store.new.out ≡ take l.used l.text ++ w = ap (take (l.used + length w)) c.store.ensures ∙ take_stored l.text l.used w (omega arith) in
    record { room = c.requires; long = rw e (omega (arith, length-append (take l.used l.text) w, l.long)); roomed = l.roomed; named = rw e (named_longer _ _ _ _ _ _ l.roomed l.named) }

pub returns : goal.returns
returns c =
    let l = c.args.self.now in
    let w = c.args.bytes.now in
    let e : take (l.used + length w) c.store.new.out ≡ take l.used l.text ++ w = ap (take (l.used + length w)) c.store.ensures ∙ take_stored l.text l.used w (omega arith) in
    record {
      place = refl;
      used = refl;
      text = e;
      room = c.store.ensures;
      names = rw e (names_longer _ _ _ _ _ _ l.roomed l.named);
      spans = refl;
      keys = refl;
      ranks = refl;
      count = refl;
    }
