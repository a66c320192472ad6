use mathlib.Core.Path.{sym, ◌∙◌}
use Rattle.judging.proofs.LayoutRange.{range_layouts, range_once}
use Rattle.judging.proofs.ranges.layout_range.Goals as goal

pub returns-then-has_layouts : goal.returns-then-has_layouts
returns-then-has_layouts c = range_layouts c.args.h.now _ _ (sym c.has_layouts.ensures ∙ c.if-has_layouts.true) c.range_of.ensures

pub returns : goal.returns
returns c = range_once c.args.h.now _ (sym c.has_layouts.ensures ∙ c.if-has_layouts.false)
