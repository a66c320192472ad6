use mathlib.Core.Path.{◌≡◌}
use lib.ListN.{take}
use Rattle.output.specs.Store.{stored}
use Rattle.output.proofs.store.Given as goal

abbrev pub invariant-loop-i : goal.invariant-loop-i
invariant-loop-i l = l.out ≡ stored l.initial.out l.at (take l.i l.text)
