use Rattle.std.proofs.Common.{refl}
use Rattle.text.specs.Bytes.{part}
use Rattle.listing.proofs.names.Listing.name.Goals as goal

pub returns : goal.returns
unfolding part
returns c = rw c.from.ensures refl
