use Rattle.std.proofs.Common.{refl}
use Rattle.listing.proofs.Adding.{names_none}
use Rattle.listing.proofs.names.Listing.clear.Goals as goal

pub returns : goal.returns
returns c = record { text = refl; used = refl; names = names_none _ _; count = refl }
