use mathlib.Core.Path.{◌≡◌}
use Rattle.xkbrules.proofs.OneByOne.{put_to}
use Rattle.xkbrules.proofs.lengths.put_lengths.Given as goal

abbrev pub invariant-loop-i : goal.invariant-loop-i
invariant-loop-i l = l.sheet ≡ put_to l.initial.sheet l.lengths l.i
