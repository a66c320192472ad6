use mathlib.Core.Path.{◌∙◌}
use Rattle.values.specs.Filling.{is_percent}
use Rattle.values.proofs.Filling.{any_listed}
use Rattle.values.proofs.fill.has_percent.Goals as goal

pub returns : goal.returns
returns c = c.contains.ensures.value ∙ any_listed is_percent c.args.w.now
