use Prim.Native.Nat.{◌-◌}
use lib.ListN.{length}
use Rattle.profile.proofs.OptionFields.{Tallied}
use Rattle.profile.proofs.fields.option_count.Given as goal

abbrev pub invariant-loop-start : goal.invariant-loop-start
invariant-loop-start l = Tallied l.options l.count l.start

abbrev pub decreases-loop-start : goal.decreases-loop-start
decreases-loop-start l = length l.options - l.start
