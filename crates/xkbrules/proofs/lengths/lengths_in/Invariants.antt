use Prim.Native.Nat.{◌≤◌}
use mathlib.Core.Path.{◌≡◌}
use lib.ListN.{length, take}
use Rattle.xkbrules.specs.Sheet.{numbers_from}
use Rattle.xkbrules.proofs.lengths.lengths_in.Given as goal

abbrev pub invariant-loop-i : goal.invariant-loop-i
invariant-loop-i l = (l.i ≤ 10) × (length l.x-items ≡ 10) × (take l.i l.x-items ≡ numbers_from l.sheet 0 l.i)
