use Rattle.listing.proofs.Ranks.{Carried}
use Rattle.listing.proofs.names.put_first.Given as goal

abbrev pub invariant-loop-place : goal.invariant-loop-place
invariant-loop-place l = Carried l.number l.initial.place-items l.place-items l.place-index l.carried
