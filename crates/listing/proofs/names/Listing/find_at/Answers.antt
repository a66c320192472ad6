use Rattle.std.proofs.Common.{ap, ◌∙◌, arith}
use Rattle.text.specs.Bytes.{part}
use Rattle.listing.specs.Names.{number_in}
use Rattle.listing.specs.Lists.{names_of}
use Rattle.listing.proofs.Finding.{part_front}
use Rattle.listing.proofs.names.Listing.find_at.Goals as goal

pub returns : goal.returns
unfolding part
returns c =
    let l = c.args.self.now in
    c.find.ensures
    ∙ ap (number_in (names_of l)) (part_front _ _ _ _ c.requires.0 (omega (arith, l.long)))
