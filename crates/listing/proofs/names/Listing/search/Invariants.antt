use Rattle.std.proofs.Common.{◌-◌}
use Rattle.listing.proofs.Finding.{Halving}
use Rattle.listing.proofs.names.Listing.search.Given as goal

abbrev pub invariant-loop-low : goal.invariant-loop-low
invariant-loop-low l = Halving l.self.text l.self.used l.self.spans l.self.ranks l.self.keys l.self.count l.self.roomed l.self.named l.name l.low l.high

abbrev pub decreases-loop-low : goal.decreases-loop-low
decreases-loop-low l = l.high - l.low
