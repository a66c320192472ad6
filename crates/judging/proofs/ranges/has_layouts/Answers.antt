use Rattle.std.proofs.Common.{rules, tests}
use Rattle.rules.specs.Held.{heading_by}
use Rattle.std.proofs.lemmas.Iterator.{YieldsList-from_slice}
use Rattle.std.proofs.lemmas.Iterator.Search.{any_from_yields_List}
use Rattle.answers.specs.Layouts.{per_layout}
use Rattle.judging.proofs.LayoutRange.{any_of_is}
use Rattle.judging.proofs.ranges.has_layouts.Goals as goal

pub returns : goal.returns
unfolding heading_by
returns c =
    rw any_of_is
    (any_from_yields_List per_layout _ _ _ c.any.ensures.ran (YieldsList-from_slice (heading_by c.args.h.now).columns (search rules)) (λ x b q k. search (rules, tests)))
