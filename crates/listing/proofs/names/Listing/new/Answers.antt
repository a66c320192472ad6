use Rattle.std.proofs.Common.{refl, arith}
use Rattle.listing.proofs.Adding.{named_none, names_none, roomed_none}
use Rattle.listing.proofs.names.Listing.new.Goals as goal

pub invariant_of-result : goal.invariant_of-result
invariant_of-result c = record { room = omega arith; long = refl; roomed = roomed_none; named = named_none _ _ _ _ }

pub returns : goal.returns
returns c = record { text = refl; used = refl; names = names_none _ _; count = refl }
