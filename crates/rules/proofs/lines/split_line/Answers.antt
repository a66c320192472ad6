use native.Mathlib.Omega.{arith}
use mathlib.Core.Path.{ap, ◌∙◌}
use Rattle.rules.specs.Splitting.{counted}
use Rattle.rules.proofs.Splits.{splitting_start, splitting_more, splitting_end}
use Rattle.rules.proofs.lines.split_line.Goals as goal

pub loop-start-init : goal.loop-start-init
loop-start-init c = splitting_start _ _ _ (omega arith)

pub loop-start-preserved : goal.loop-start-preserved
loop-start-preserved c =
    splitting_more _ _ _ _ _ _ _ c.loop-start.invariant _ _ _ _ _ _ _ c.in-Found.ensures c.store.ensures
    (c.counting-tally.ensures ∙ ap (counted c.args.heading c.loop-start.tally) c.word.ensures) c.lower-fault.ensures

pub returns-in-Stop : goal.returns-in-Stop
returns-in-Stop c = splitting_end _ _ _ _ _ _ _ c.loop-start.invariant _ _ c.in-Stop.ensures
