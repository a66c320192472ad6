use mathlib.Core.Path.{◌∙◌}
use Rattle.card.proofs.ReadLoops.{cut_early, split_there}
use Rattle.card.proofs.reading.split_section.Goals as goal

pub returns-in_err-size : goal.returns-in_err-size
returns-in_err-size c = rw c.from_residual.ensures (cut_early _ c.in_err-size.ensures.cases)

pub returns : goal.returns
returns c =
    let b = c.in_ok-size.ensures.cases in
    split_there _ _ _ _ b.0 b.1 b.2 (c.from.ensures ∙ c.from_le_bytes.ensures) _ c.split_at_checked.ensures.cases
